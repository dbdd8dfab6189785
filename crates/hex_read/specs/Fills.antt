-- The bytes of a text that is not refused, laid line by line.
use Rattle.std.specs.Prelude.{◌≡◌, refl, Bool, true, false, cond, Result, Ok, Err, IsOk, List, [], ◌∷◌, map, ℕ, ◌+◌, ◌≤◌, ◌<◌, length, replicate}
use Rattle.std.proofs.Common.{sym, ap, ◌∙◌, arith}
use Rattle.std.proofs.Math.Option.{none}
use Rattle.std.proofs.Math.Decide.{dec_le}
use Rattle.std.proofs.lemmas.List.{length-replicate}
use Rattle.std.proofs.lemmas.List.Edits.{sets}
use Rattle.rules.specs.Flash.{Bytes, is_geometry}
use Rattle.rules.specs.Lists.{is_none}
use Rattle.rules.specs.declared.Geometry.{Geometry}
use Rattle.hex_lines.specs.declared.Record.{Record}
use Rattle.hex_lines.specs.declared.Record.TheVariants.{End, Data}
use Rattle.hex_lines.specs.declared.HexFault.{HexFault}
use Rattle.hex_lines.specs.declared.HexFault.TheVariants.{BadLine, Outside, NamedTwice, NoEnd}
use Rattle.hex_lines.specs.Faults.{number}
use Rattle.hex_lines.specs.Records.{record_of, data_of, lines_of}
use Rattle.hex_lines.specs.Reads.{ReadAnswer, Cells, Reading, reading, read_text, is_outside, is_taken, name, or_erased, settled, reads}
use Rattle.hex_lines.specs.Steps.{reading_bad, reading_end, reading_outside, reading_taken, reading_on, is_outside_lem, never_refused, read_geometry}
use Rattle.hex_read.specs.Cells.{name_image, image_blank, image_length}

-- What the whole text names.
pub record TextNames (t : Bytes) (size : ℕ) (image : Bytes) : Type 0 where
  pub cells : Cells
  pub is : read_text t size ≡ Ok cells
  pub holds : image ≡ map or_erased cells

-- On the way: the lines ls come to what the whole text comes to, with the bytes that the image has; or they are over.
pub data OnTheWay (t : Bytes) (size : ℕ) (ls : List Bytes) (image : Bytes) : Type 0 where
  going : (last cells : Cells) → read_text t size ≡ Ok last → read_text t size ≡ reading ls cells → image ≡ map or_erased cells → OnTheWay t size ls image
  over : ls ≡ [] → TextNames t size image → OnTheWay t size ls image

-- The line's bytes, if it has any, are within an image of so many bytes.
unfoldable pub IsInside : Bytes → ℕ → Type 0
IsInside l size = (a n : ℕ) → record_of l ≡ Ok (Data a n) → 0 < n → a + n ≤ size

-- The image with a line's bytes.
unfoldable pub laid : Bytes → Bytes → Bytes
laid l s = elim (record_of l) [ Err e ↦ s | Ok r ↦ elim r [ End ↦ s | Data a n ↦ sets s a (data_of l) ] ]

module _ (l s : Bytes) where
  pub laid_fault : (e : HexFault) → record_of l ≡ Err e → s ≡ laid l s
  unfolding laid
  laid_fault e r = rw (r, laid)

  pub laid_end : record_of l ≡ Ok End → laid l s ≡ s
  unfolding laid
  laid_end r = rw (r, laid)

  pub laid_data : (a n : ℕ) → record_of l ≡ Ok (Data a n) → laid l s ≡ sets s a (data_of l)
  unfolding laid
  laid_data a n r = rw (r, laid)

none_left : (ls : List Bytes) → is_none ls ≡ true → ls ≡ []
unfolding is_none
none_left [] e = refl
none_left (l ∷ ls) e = absurd (cc)

module _ (t : Bytes) (size : ℕ) (image : Bytes) where
  -- No line is left where the last one was an end record.
  pub fills_last : OnTheWay t size [] image → TextNames t size image
  unfolding reading
  fills_last (going last cells p q r) = absurd (never_refused NoEnd last (read_text t size) p q)
  fills_last (over e f) = f

  module _ (l : Bytes) (ls : List Bytes) where
    pub fill_inside : length image ≡ size → OnTheWay t size (l ∷ ls) image → IsInside l size
    unfolding IsInside
    fill_inside w (going last cells p q i) a n e h = go (dec_le (a + n) size)
      where
        go : Dec (a + n ≤ size) → a + n ≤ size
        go (yes k) = k
        go (no k) =
            let m : length cells < a + n = omega (arith, ap length i, image_length cells) in
            absurd (never_refused Outside last (read_text t size) p (q ∙ reading_outside l ls cells a n e (is_outside_lem a n cells h m)))
    fill_inside w (over e f) a n x h = absurd (cc)

    pub fill_more : OnTheWay t size (l ∷ ls) image → OnTheWay t size ls (laid l image)
    fill_more (going last cells p q i) = go (record_of l) refl
      where
        ended : (b : Bool) → is_none ls ≡ b → record_of l ≡ Ok End → OnTheWay t size ls image
        ended true f r = over (none_left ls f) (record { cells = cells; is = q ∙ reading_end l ls cells r ∙ ap (λ (b : Bool). cond b (Ok cells) (Err BadLine)) f; holds = i })
        ended false f r = absurd (never_refused BadLine last (read_text t size) p (q ∙ reading_end l ls cells r ∙ ap (λ (b : Bool). cond b (Ok cells) (Err BadLine)) f))

        with_data : (a n : ℕ) → record_of l ≡ Ok (Data a n) → (b c : Bool) → is_outside a n cells ≡ b → is_taken a n cells ≡ c → OnTheWay t size ls (sets image a (data_of l))
        with_data a n r true c x y = absurd (never_refused Outside last (read_text t size) p (q ∙ reading_outside l ls cells a n r x))
        with_data a n r false true x y = absurd (never_refused NamedTwice last (read_text t size) p (q ∙ reading_taken l ls cells a n r x y))
        with_data a n r false false x y =
            going last (name a (data_of l) cells) p (q ∙ reading_on l ls cells a n r x y) (ap (λ (s : Bytes). sets s a (data_of l)) i ∙ sym (name_image (data_of l) cells a))

        go : (r : Result Record HexFault) → record_of l ≡ r → OnTheWay t size ls (laid l image)
        go (Err e) r = absurd (never_refused e last (read_text t size) p (q ∙ reading_bad l ls cells e r))
        go (Ok End) r = rw (laid_end l image r) (ended (is_none ls) refl r)
        go (Ok (Data a n)) r = rw (laid_data l image a n r) (with_data a n r (is_outside a n cells) (is_taken a n cells) refl refl)
    fill_more (over e f) = absurd (cc)

-- ---- a cleared image
fills_first : (t : Bytes) (size : ℕ) → IsOk (read_text t size) → OnTheWay t size (lines_of t) (replicate size 255)
unfolding read_text
fills_first t size h = go (read_text t size) refl h
  where
    go : (r : Reading) → read_text t size ≡ r → IsOk r → OnTheWay t size (lines_of t) (replicate size 255)
    go (Ok cs) e h = going cs (replicate size none) e refl (sym (image_blank size))
    go (Err e) q h = absurd (cc)

module _ (t s x : Bytes) (e : x ≡ replicate (length s) 255) where
  same_size : length x ≡ length s
  same_size = ap length e ∙ length-replicate {A = ℕ} (length s) 255

  pub fills_cleared : IsOk (read_text t (length s)) → OnTheWay t (length x) (lines_of t) x
  fills_cleared h = rw (same_size, e) (fills_first t (length s) h)

  pub filled_cleared : (u : Bytes) → TextNames t (length x) u → TextNames t (length s) u
  filled_cleared u f = rw same_size at f

-- ---- the whole
both : (r : ReadAnswer) (n : ℕ) (u : Bytes) → r ≡ record { number = n; image = u } → (n ≡ r.number) × (u ≡ r.image)
both r n u e = (sym (ap (λ (x : ReadAnswer). x.number) e), sym (ap (λ (x : ReadAnswer). x.image) e))

module _ (g : Geometry) (t s : Bytes) where
  pub read_other : is_geometry g (length s) ≡ false → (2 ≡ (reads g t s).number) × (s ≡ (reads g t s).image)
  read_other e = both (reads g t s) 2 s (read_geometry g t s e)

  module _ (e : is_geometry g (length s) ≡ true) where
    pub read_refused : (k : HexFault) → read_text t (length s) ≡ Err k → (number k ≡ (reads g t s).number) × (s ≡ (reads g t s).image)
    unfolding reads settled
    read_refused k h = both (reads g t s) (number k) s (rw (e, h))

    pub read_done : (u : Bytes) → TextNames t (length s) u → (0 ≡ (reads g t s).number) × (u ≡ (reads g t s).image)
    unfolding reads settled
    read_done u f = both (reads g t s) 0 u (rw (e, f.is, f.holds))
