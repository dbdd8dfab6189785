-- What the copy of a home holds, by the home's parts: its state word plays no part.
use Rattle.std.specs.Prelude.{Bool, ◌&&◌, ◌||◌, ◌≡◌, ◌%◌, ◌*◌, ◌+◌, ◌-◌, ◌/◌, ◌<◌, ◌≤◌, min, ℕ, drop, replicate, take}
use Rattle.std.proofs.Math.Bool.{cond, false, not, true}
use mathlib.Core.List.{List, [], ◌++◌, ◌∷◌}
use Rattle.std.proofs.Common.{◌∙◌, add-zero, length-drop, length-take, take-append-drop}
use Rattle.std.proofs.Math.Path.{ap, refl, subst, sym}
use native.Mathlib.Omega.{arith}
use Rattle.std.proofs.Math.Dec.{eqb, leb}
use Rattle.std.proofs.Math.ListN.{length, length-append}
use Rattle.rules.specs.Copy.{copies, copy_of, due, fill, is_copyable, is_kept, is_movable, kept_size, packed}
use Rattle.rules.specs.Flash.{Bytes, finish, program, programs, words}
use Rattle.rules.specs.Lists.{all}
use Rattle.rules.specs.Unit.{Descriptor, Room, header_bytes, is_data, is_mark, is_placed, is_tagged, is_transaction, n, size, stands, transaction_tag}
use Rattle.rules.specs.declared.Geometry.{Geometry}
use Rattle.laws.specs.Copied.{kept_small, kept_sector}
use Rattle.laws.specs.Units.{even_size_lem}
use Rattle.theory.specs.Base.Facts.{all_append, all_back, all_cons, all_front, all_uncons, both, eq_of, le_of, leb_of, true_false}
use Rattle.theory.specs.Base.Along.{le}
use Rattle.theory.specs.Images.Head.{Head, copy_head}
use Rattle.theory.specs.Images.Layout.{Good, are_bytes, is_byte, layout, length_layout, room_layout}
use Rattle.theory.specs.Images.Sectors.{AllAbove, LegalGeometry, all_above, drop_laid}
use Rattle.theory.specs.Storing.Fill.{SmallWords, words_bytes_lem, words_even, words_small, words_bytes}
use Rattle.theory.specs.Moves.Copied.{Copyable, SectorFit, copied, gathered}
use Rattle.theory.specs.Moves.Within.{WritesCopy, writing}
use Rattle.theory.specs.Moves.Written.{copy_writes}
use Rattle.theory.specs.Storing.Stores.{p}
use Rattle.theory.specs.Images.Packing.{Lying, lying}
use Rattle.theory.specs.Moves.Packed.{kept_fits, packed_good, packed_array, packed_gap, trim_layout}

-- the bytes of a sector, an odd tail with it
abbrev pub sector_over : Geometry → Bytes → Descriptor → Bytes
sector_over g rest d = take (size d) (drop (length rest + d.offset - g.size) rest)

abbrev pub gather : Geometry → Bytes → List Descriptor → Bytes → Bytes
gather g rest [] r = r
gather g rest (d ∷ ds) r = gather g rest ds (cond (is_kept d) (sector_over g rest d ++ r) r)

bytes_part : (k n : ℕ) (c : Bytes) → are_bytes c ≡ true → are_bytes (take k (drop n c)) ≡ true
bytes_part k n c h =
    all_front is_byte (take k (drop n c)) (drop k (drop n c)) (subst (λ (x : Bytes). are_bytes x ≡ true) (sym (take-append-drop k (drop n c)))
    (all_back is_byte (take n c) (drop n c) (subst (λ (x : Bytes). are_bytes x ≡ true) (sym (take-append-drop n c)) h)))

-- what is tagged is small
pub tagged_small : (d : Descriptor) → is_tagged d ≡ true → (d.len ≤ 256) × (d.tag < 65535)
unfolding is_transaction transaction_tag is_mark is_data is_tagged
tagged_small d h = go (is_data d) (is_mark d) (is_transaction d) (leb d.len 256) (eqb d.len 0) refl refl refl refl refl h
  where
    go : (a b c x y : Bool) → is_data d ≡ a → is_mark d ≡ b → is_transaction d ≡ c → leb d.len 256 ≡ x → eqb d.len 0 ≡ y → (a && x) || ((b || c) && y) ≡ true → (d.len ≤ 256) × (d.tag < 65535)
    go true b c true y p q r s t k = (le_of d.len 256 s, omega (arith, eq_of (d.tag / 256) 16 p))
    go true b c false true p q r s t k = (omega (arith, eq_of d.len 0 t), omega (arith, eq_of (d.tag / 256) 16 p))
    go true true c false false p q r s t k = true_false false k refl
    go true false true false false p q r s t k = true_false false k refl
    go true false false false false p q r s t k = true_false false k refl
    go false true c x true p q r s t k = (omega (arith, eq_of d.len 0 t), omega (arith, eq_of (d.tag / 256) 32 q))
    go false true c x false p q r s t k = true_false false k refl
    go false false true x true p q r s t k = (omega (arith, eq_of d.len 0 t), omega (arith, eq_of d.tag 12288 r))
    go false false true x false p q r s t k = true_false false k refl
    go false false false x y p q r s t k = true_false false k refl

rounded_even : (n : ℕ) → (n + n % 2) % 2 ≡ 0
rounded_even n = omega arith

module _ (g : Geometry) (rest : Bytes) (floor : ℕ) (bytes : are_bytes rest ≡ true) (fits' : floor + length rest ≡ g.size) where
  -- a kept sector, whole
  pub sector_length : (from : ℕ) (d : Descriptor) → Lying g from d → floor ≤ d.offset → length (sector_over g rest d) ≡ size d
  sector_length from d y a = length-take (size d) (drop (length rest + d.offset - g.size) rest) ∙ ap (min (size d)) (length-drop (length rest + d.offset - g.size) rest) ∙ least
    where
      least : min (size d) (length rest - (length rest + d.offset - g.size)) ≡ size d
      least = omega (arith, y.inside, a, fits')

  pub gather_length : (from : ℕ) (ds : List Descriptor) (r : Bytes) → all (is_placed g from) ds ≡ true → AllAbove floor ds → length (gather g rest ds r) ≡ kept_size ds + length r
  unfolding kept_size
  gather_length from [] r h a = omega arith
  gather_length from (d ∷ ds) r h a = go (is_kept d) refl (λ x. gather_length from ds x (all_uncons (is_placed g from) d ds h).1 a.1)
    where
      go : (k : Bool) → is_kept d ≡ k → ((x : Bytes) → length (gather g rest ds x) ≡ kept_size ds + length x)
          → length (gather g rest ds (cond k (sector_over g rest d ++ r) r)) ≡ cond k (size d) 0 + kept_size ds + length r
      go true e f = omega (arith, f (sector_over g rest d ++ r), length-append (sector_over g rest d) r, sector_length from d (lying g from d (all_uncons (is_placed g from) d ds h).0 (kept_sector d e)) (a.0 (kept_sector d e)))
      go false e f = omega (arith, f r)

  pub gather_bytes : (ds : List Descriptor) (r : Bytes) → are_bytes r ≡ true → are_bytes (gather g rest ds r) ≡ true
  gather_bytes [] r h = h
  gather_bytes (d ∷ ds) r h = go (is_kept d) (λ x k. gather_bytes ds x k)
    where
      go : (k : Bool) → ((x : Bytes) → are_bytes x ≡ true → are_bytes (gather g rest ds x) ≡ true) → are_bytes (gather g rest ds (cond k (sector_over g rest d ++ r) r)) ≡ true
      go true f = f (sector_over g rest d ++ r) (all_append is_byte (sector_over g rest d) r (bytes_part (size d) (length rest + d.offset - g.size) rest bytes) h)
      go false f = f r h

-- ---- the copy's parts, by those of its home
module _ (g : Geometry) (sh : LegalGeometry g) (ds : List Descriptor) (free : ℕ) (rest : Bytes) (h : Good g ds free rest) where
  abbrev low : ℕ
  low = stands (length ds) + free

  sum : low + length rest ≡ g.size
  sum = omega (arith, h.fills)

  above : AllAbove low ds
  above = all_above low g.size ds (omega (arith, h.low))

  abbrev pub copy_rest : Bytes
  copy_rest = gather g rest ds []

  pub copy_rest_length : length copy_rest ≡ kept_size ds
  copy_rest_length = gather_length g rest low h.bytes sum (stands (length ds)) ds [] h.sectors above ∙ add-zero (kept_size ds)

  pub copy_good : Good g (packed_array g sh ds free rest h) (packed_gap g sh ds free rest h) copy_rest
  unfolding all
  copy_good = packed_good g sh ds free rest h copy_rest copy_rest_length (gather_bytes g rest low h.bytes sum ds [] refl)

-- the copy is what the fill leaves: nothing is due in its header
pub filled_copy : (g : Geometry) (L : ℕ) (u : Bytes) → finish (fill g 0 L u) (replicate g.size 255) ≡ copy_of g L u
unfolding copy_of finish programs due
filled_copy g L u = refl

-- ---- the copy of a laid-out home
module _ (g : Geometry) (sh : LegalGeometry g) (L st : ℕ) (head : Head) (ds : List Descriptor) (free : ℕ) (rest : Bytes) (h : Good g ds free rest) where
  abbrev u : Bytes
  u = layout L st head ds free rest

  sector_is : (d : Descriptor) → (low g sh ds free rest h) ≤ d.offset → take (size d) (drop d.offset u) ≡ sector_over g rest d
  sector_is d l = ap (take (size d)) (drop_laid g L st head ds free rest h d.offset l)

  gathered_as : (xs : List Descriptor) → all (is_placed g (stands (length ds))) xs ≡ true → AllAbove (low g sh ds free rest h) xs → (r : Bytes) → gathered u xs r ≡ gather g rest xs r
  unfolding size
  gathered_as [] p a r = refl
  gathered_as (d ∷ xs) p a r = go (is_kept d) refl (λ x. gathered_as xs (all_uncons (is_placed g (stands (length ds))) d xs p).1 a.1 x)
    where
      go : (k : Bool) → is_kept d ≡ k → ((x : Bytes) → gathered u xs x ≡ gather g rest xs x)
          → gathered u xs (cond k (words_bytes (words (take (size d) (drop d.offset u))) r) r) ≡ gather g rest xs (cond k (sector_over g rest d ++ r) r)
      go false e f = f r
      go true e f =
          ap (λ (b : Bytes). gathered u xs (words_bytes (words b) r)) (sector_is d (a.0 (kept_sector d e)))
          ∙ ap (gathered u xs) (words_bytes_lem (sector_over g rest d) r (bytes_part (size d) (length rest + d.offset - g.size) rest h.bytes) (ap (λ (n : ℕ). n % 2) (sector_length g rest (low g sh ds free rest h) h.bytes (sum g sh ds free rest h) (stands (length ds)) d y (a.0 (kept_sector d e))) ∙ rounded_even d.len))
          ∙ f (sector_over g rest d ++ r)
        where
          y : Lying g (stands (length ds)) d
          y = lying g (stands (length ds)) d (all_uncons (is_placed g (stands (length ds))) d xs p).0 (kept_sector d e)

  copyable : (xs : List Descriptor) → all (is_placed g (stands (length ds))) xs ≡ true → AllAbove (low g sh ds free rest h) xs → Copyable u xs
  unfolding size
  copyable [] p a = tt
  copyable (d ∷ xs) p a = (fit, copyable xs (all_uncons (is_placed g (stands (length ds))) d xs p).1 a.1)
    where
      fit : is_kept d ≡ true → SectorFit u d
      fit e =
          record {
            even = ap (λ (b : Bytes). length (words b) * 2) is ∙ words_even (sector_over g rest d) ∙ ap (λ (n : ℕ). n + n % 2) len ∙ twice d.len;
            small = subst (λ (b : Bytes). SmallWords (words b)) (sym is) (words_small (sector_over g rest d) (bytes_part (size d) (length rest + d.offset - g.size) rest h.bytes));
            flags = kept_small d e;
            len = omega (arith, (tagged_small d y.tagged).0);
            tag = omega (arith, (tagged_small d y.tagged).1);
          }
        where
          y : Lying g (stands (length ds)) d
          y = lying g (stands (length ds)) d (all_uncons (is_placed g (stands (length ds))) d xs p).0 (kept_sector d e)

          is : take (size d) (drop d.offset u) ≡ sector_over g rest d
          is = sector_is d (a.0 (kept_sector d e))

          len : length (sector_over g rest d) ≡ size d
          len = sector_length g rest (low g sh ds free rest h) h.bytes (sum g sh ds free rest h) (stands (length ds)) d y (a.0 (kept_sector d e))

          twice : (n : ℕ) → n + n % 2 + (n + n % 2) % 2 ≡ n + n % 2
          twice n = omega arith

  -- THE copy
  pub copy_is : L < 65536 → copy_of g L (layout L st head ds free rest) ≡ layout L 0xFFFF copy_head (packed_array g sh ds free rest h) (packed_gap g sh ds free rest h) (copy_rest g sh ds free rest h)
  unfolding fill
  copy_is l =
      sym (filled_copy g L u)
      ∙ ap (λ (r : Room). finish (program 0 L ∷ copies 0 u header_bytes r.array (packed g.size r.array)) (replicate g.size 255)) (room_layout g L st head ds free rest h)
      ∙ copied g L u ds (g.size - stands (length ds)) whole (omega (arith, sh.right.small)) l (omega (arith, kept_fits g sh ds free rest h)) (copyable ds h.sectors (above g sh ds free rest h))
      ∙ ap (layout L 0xFFFF copy_head (packed g.size ds) (g.size - stands (length ds) - kept_size ds)) (gathered_as ds h.sectors (above g sh ds free rest h) [])
      ∙ trim_layout g sh ds free rest h L 0xFFFF copy_head (copy_rest g sh ds free rest h)
    where
      whole : g.size ≡ stands (length ds) + (g.size - stands (length ds))
      whole = omega (arith, h.fills)

  -- its steps write it
  pub copy_steps : L < 65536 → WritesCopy (layout L 0xFFFF copy_head (packed_array g sh ds free rest h) (packed_gap g sh ds free rest h) (copy_rest g sh ds free rest h)) (fill g 0 L (layout L st head ds free rest))
  unfolding stands fill
  copy_steps l =
      subst (λ (r : Room). WritesCopy C (program 0 L ∷ copies 0 u header_bytes r.array (packed g.size r.array))) (sym (room_layout g L st head ds free rest h))
      (writing [] L (le 0xFFFF (drop 4 C)) 0 refl tt refl l
      (copy_writes u g L 0xFFFF copy_head C ds [] (g.size - stands (length ds) - kept_size ds) g.size [] shape long (even_size_lem sh.right) (even_size_lem sh.right) (add-zero g.size) (omega (arith, sh.right.small)) (omega (arith, kept_fits g sh ds free rest h)) (copyable ds h.sectors (above g sh ds free rest h)) header_bytes refl))
    where
      C : Bytes
      C = layout L 0xFFFF copy_head (packed_array g sh ds free rest h) (packed_gap g sh ds free rest h) (copy_rest g sh ds free rest h)

      shape : C ≡ layout L 0xFFFF copy_head (packed g.size ds) (g.size - stands (length ds) - kept_size ds) (gathered u ds [])
      shape = sym (trim_layout g sh ds free rest h L 0xFFFF copy_head (copy_rest g sh ds free rest h)) ∙ sym (ap (layout L 0xFFFF copy_head (packed g.size ds) (g.size - stands (length ds) - kept_size ds)) (gathered_as ds h.sectors (above g sh ds free rest h) []))

      long : length C ≡ g.size
      long = length_layout g L 0xFFFF copy_head (packed_array g sh ds free rest h) (packed_gap g sh ds free rest h) (copy_rest g sh ds free rest h) (copy_good g sh ds free rest h)

  -- its sectors can be copied
  pub is_copyable_lem : is_copyable g (layout L st head ds free rest) ≡ true
  unfolding all is_movable is_copyable n
  is_copyable_lem =
      ap (λ (r : Room). all (is_movable g) r.array && leb (stands (length r.array) + kept_size r.array) g.size) (room_layout g L st head ds free rest h)
      ∙ both (movable ds h.sectors) (leb_of (stands (length ds) + kept_size ds) g.size (kept_fits g sh ds free rest h))
    where
      movable : (xs : List Descriptor) → all (is_placed g (stands (length ds))) xs ≡ true → all (is_movable g) xs ≡ true
      movable [] p = refl
      movable (d ∷ xs) p = all_cons (is_movable g) d xs (go (is_kept d) refl) (movable xs (all_uncons (is_placed g (stands (length ds))) d xs p).1)
        where
          go : (k : Bool) → is_kept d ≡ k → not k || (leb d.len 256 && eqb (d.offset % 2) 0 && leb (d.offset + size d) g.size) ≡ true
          go false e = refl
          go true e = both (both (leb_of d.len 256 (tagged_small d y.tagged).0) (ap (λ (n : ℕ). eqb n 0) y.even)) (leb_of (d.offset + size d) g.size y.inside)
            where
              y : Lying g (stands (length ds)) d
              y = lying g (stands (length ds)) d (all_uncons (is_placed g (stands (length ds))) d xs p).0 (kept_sector d e)
