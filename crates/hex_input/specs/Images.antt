-- A text's image, as it stands in the buffer behind the two lines.
use Rattle.std.specs.Prelude.{◌≡◌, true, false, ◌++◌, Ok, Err, ℕ, ◌+◌, ◌-◌, ◌*◌, ◌≤◌, length, take, drop}
use Rattle.std.proofs.Math.Path.{refl, sym, ap}
use Rattle.std.proofs.Common.{◌∙◌, append_assoc, arith, length-append, take_at, length-take-le}
use Rattle.rules.specs.Flash.{Bytes, is_geometry}
use Rattle.rules.specs.Listing.{keyed}
use Rattle.rules.specs.declared.Geometry.{Geometry}
use Rattle.laws.specs.Words.{part_long}
use Rattle.hex_lines.specs.declared.HexFault.{HexFault}
use Rattle.hex_lines.specs.Faults.{number}
use Rattle.hex_lines.specs.Reads.{Reading, read_text, settled, ReadAnswer, reads}
use Rattle.hex_input.specs.Programs.{refusal, as_image, from_text}
use Rattle.hex_input.specs.Texts.{Printed, number_short}

pub image_bad : (g : Geometry) (t : Bytes) → is_geometry g (g.units * g.size) ≡ false → refusal 2 ≡ from_text g t
unfolding from_text
image_bad g t e = rw e

-- ---- the read's result
module _ (g : Geometry) (t s : Bytes) (d : is_geometry g (g.units * g.size) ≡ true) (l : length s ≡ g.units * g.size) where
  from_is : from_text g t ≡ as_image g (read_text t (length s))
  unfolding from_text
  from_is = rw d (ap (as_image g) (ap (read_text t) (sym l)))

  read_is : (r : Reading) → read_text t (length s) ≡ r → reads g t s ≡ settled r s
  unfolding reads
  read_is r q = rw (ap (is_geometry g) l ∙ d) (ap (λ (x : Reading). settled x s) q)

  pub image_refused : (e : HexFault) → number e ≡ (reads g t s).number → refusal (number e) ≡ from_text g t
  unfolding as_image settled
  image_refused e h = go (read_text t (length s)) refl
    where
      go : (r : Reading) → read_text t (length s) ≡ r → refusal (number e) ≡ from_text g t
      go (Err j) q = ap refusal (h ∙ ap (λ (x : ReadAnswer). x.number) (read_is (Err j) q)) ∙ sym (from_is ∙ ap (as_image g) q)
      go (Ok cs) q = absurd (omega (arith, h ∙ ap (λ (x : ReadAnswer). x.number) (read_is (Ok cs) q), (number_short e).0))

  pub image_done : (u : Bytes) → 0 ≡ (reads g t s).number → u ≡ (reads g t s).image → keyed "unit=" g.size ++ (keyed "units=" g.units ++ u) ≡ from_text g t
  unfolding as_image settled
  image_done u e i = go (read_text t (length s)) refl
    where
      go : (r : Reading) → read_text t (length s) ≡ r → keyed "unit=" g.size ++ (keyed "units=" g.units ++ u) ≡ from_text g t
      go (Err j) q = absurd (omega (arith, e ∙ ap (λ (x : ReadAnswer). x.number) (read_is (Err j) q), (number_short j).0))
      go (Ok cs) q = ap (λ (x : Bytes). keyed "unit=" g.size ++ (keyed "units=" g.units ++ x)) (i ∙ ap (λ (x : ReadAnswer). x.image) (read_is (Ok cs) q)) ∙ sym (from_is ∙ ap (as_image g) q)

-- ---- the part that is lent for it
module _ (g : Geometry) (t b : Bytes) (j : ℕ) (d : is_geometry g (g.units * g.size) ≡ true) (l : j + g.units * g.size ≤ length b) where
  abbrev lent : Bytes
  lent = take (j + g.units * g.size - j) (drop j b)

  abbrev behind : Bytes
  behind = drop (j + g.units * g.size - j) (drop j b)

  long : length lent ≡ g.units * g.size
  long = part_long b j (g.units * g.size) l

  pub part_refused : (e : HexFault) → number e ≡ (reads g t lent).number → refusal (number e) ≡ from_text g t
  part_refused e h = image_refused g t lent d long e h

  -- The two lines and the part, left as the read leaves it, are what is printed.
  pub part_done : (u : Bytes) → take j b ≡ keyed "unit=" g.size ++ keyed "units=" g.units
      → 0 ≡ (reads g t lent).number → u ≡ (reads g t lent).image → length u ≡ length lent → Printed (from_text g t) (take j b ++ (u ++ behind)) (j + g.units * g.size)
  part_done u heads e f m =
      let one : Bytes = keyed "unit=" g.size in
      let two : Bytes = keyed "units=" g.units in
      let w : length (take j b ++ u) ≡ j + g.units * g.size = omega (arith, length-append (take j b) u, length-take-le j b (omega arith), m, long) in
      record {
        text = ap (take (j + g.units * g.size)) (sym (append_assoc (take j b) u behind)) ∙ take_at (take j b ++ u) behind (j + g.units * g.size) w ∙ ap (λ (r : Bytes). r ++ u) heads ∙ append_assoc one two u ∙ image_done g t lent d long u e f;
        inside = omega (arith, w, ap length (append_assoc (take j b) u behind), length-append (take j b ++ u) behind);
      }
