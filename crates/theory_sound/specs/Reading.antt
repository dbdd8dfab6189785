-- From the tests to the layout: a unit of bytes that passes for a home is laid out as it is read.
use Rattle.std.specs.Prelude.{Bool, cond, false, true, List, [], ◌++◌, ◌∷◌, ◌≡◌, refl, leb, take}
use Rattle.std.proofs.Common.{◌∙◌, arith, take-append-drop, length-take-le}
use Rattle.std.proofs.Math.Path.{ap, ap₂, sym}
use Prim.Native.Nat.{◌%◌, ◌*◌, ◌+◌, ◌-◌, ◌/◌, ◌<◌, ◌≤◌, min, suc, zero, ℕ}
use Rattle.std.proofs.Math.ListN.{drop, length, length-append, length-drop, replicate}
use Rattle.std.proofs.Math.Seq.{drop-drop}
use Rattle.rules.specs.Flash.{Bytes, word}
use Rattle.rules.specs.Lists.{all}
use Rattle.rules.specs.Unit.{Descriptor, descriptor, gap, has_sector, header_bytes, is_header, is_home, is_placed, lower, lowest, n, room_for, room_of, stands}
use Rattle.rules.specs.Unit.{trim, upward}
use Rattle.rules.specs.declared.Geometry.{Geometry}
use Rattle.laws.specs.Complete.{erased_is_lem}
use Rattle.laws.specs.Rooms.{HomeParts, home_parts, lower_le, lowest_le}
use Rattle.laws.specs.Words.{AreBytes}
use Rattle.theory.specs.Base.Facts.{all_back, all_cons, all_front, all_uncons, le_of, lt_of, ltb_of}
use Rattle.theory.specs.Base.Along.{le}
use Rattle.theory.specs.Images.Head.{head_bytes, head_of, headed}
use Rattle.theory.specs.Images.Layout.{Good, are_bytes, array_bytes, bytes_of, drop_array, is_byte, layout}
use Rattle.theory.specs.Images.Packing.{lying}
use Rattle.theory.specs.Moves.Packed.{Trimmed, tight_trim, trimmed}

-- ---- bytes
pub bytes_drop : (k : ℕ) (s : Bytes) → are_bytes s ≡ true → are_bytes (drop k s) ≡ true
bytes_drop k s h = all_back is_byte (take k s) (drop k s) (ap are_bytes (take-append-drop k s) ∙ h)

pub bytes_take : (k : ℕ) (s : Bytes) → are_bytes s ≡ true → are_bytes (take k s) ≡ true
bytes_take k s h = all_front is_byte (take k s) (drop k s) (ap are_bytes (take-append-drop k s) ∙ h)

-- of an image whose bytes are each below 256
pub from_bytes : (s : Bytes) → AreBytes s → are_bytes s ≡ true
unfolding all
from_bytes [] h = refl
from_bytes (x ∷ s) h = all_cons is_byte x s (ltb_of x 256 (h 0)) (from_bytes s (λ i. h (suc i)))

two_bytes : (x y : ℕ) (r : Bytes) → x < 256 → x ∷ (y ∷ r) ≡ le (x + 256 * y) r
two_bytes x y r h = λ i. low i ∷ (high i ∷ r)
  where
    low : x ≡ (x + 256 * y) % 256
    low = omega arith

    high : y ≡ (x + 256 * y) / 256
    high = omega arith

-- the first word
pub first_word : (u : Bytes) → 2 ≤ length u → are_bytes u ≡ true → u ≡ le (word u 0) (drop 2 u)
unfolding word
first_word [] l b = absurd (let z : ⊥ = omega arith in z)
first_word (x ∷ []) l b = absurd (let z : ⊥ = omega arith in z)
first_word (x ∷ (y ∷ r)) l b = two_bytes x y r (lt_of x 256 (all_uncons is_byte x (y ∷ r) b).0)

next_word : (k : ℕ) (u : Bytes) → k + 2 ≤ length u → are_bytes u ≡ true → drop k u ≡ le (word u k) (drop (k + 2) u)
unfolding word
next_word k u l b = first_word (drop k u) (omega (arith, length-drop k u)) (bytes_drop k u b) ∙ ap (le (word u k)) (drop-drop 2 k u)

-- the first two words
pub two_words_lem : (u : Bytes) → 4 ≤ length u → are_bytes u ≡ true → u ≡ le (word u 0) (le (word u 2) (drop 4 u))
two_words_lem u l b = first_word u (omega arith) b ∙ ap (le (word u 0)) (next_word 2 u (omega arith) b)

-- a descriptor's eight bytes
eight_bytes : (r : Bytes) → 8 ≤ length r → are_bytes r ≡ true → r ≡ bytes_of (descriptor r) (drop 8 r)
unfolding descriptor
eight_bytes r l b =
    two_words_lem r (omega arith) b
    ∙ ap (λ (x : Bytes). le (word r 0) (le (word r 2) x)) (next_word 4 r (omega arith) b ∙ ap (le (word r 4)) (next_word 6 r (omega arith) b))

-- the header behind the state: any unit's bytes 4-15
header_there : (u : Bytes) → header_bytes ≤ length u → are_bytes u ≡ true → u ≡ le (word u 0) (le (word u 2) (head_bytes (head_of u) (drop header_bytes u)))
header_there u l b =
    two_words_lem u (omega arith) b
    ∙ ap (λ (x : Bytes). le (word u 0) (le (word u 2) x))
    (next_word 4 u (omega arith) b ∙ ap (le (word u 4)) (next_word 6 u (omega arith) b ∙ ap (le (word u 6)) (next_word 8 u (omega arith) b
    ∙ ap (le (word u 8)) (next_word 10 u (omega arith) b ∙ ap (le (word u 10)) (next_word 12 u (omega arith) b ∙ ap (le (word u 12)) (next_word 14 u (omega arith) b))))))

pub header_headed : (u : Bytes) → header_bytes ≤ length u → are_bytes u ≡ true → is_header u ≡ true → headed (head_of u) ≡ true
unfolding is_header
header_headed u l b h = sym (ap is_header (header_there u l b)) ∙ h

-- ---- the array, read upward, stands there
record ArrayThere (r : Bytes) (at top : ℕ) (xs : List Descriptor) : Type 0 where
  behind : Bytes
  whole : r ≡ array_bytes xs behind
  inside : at + 8 * length xs ≤ top

found : (k : ℕ) (r : Bytes) (at low top : ℕ) → low ≤ top → at ≤ top → top ≤ at + length r → are_bytes r ≡ true → ArrayThere r at top (upward k r at low)
unfolding upward
found zero r at low top a b c h = record { behind = r; whole = refl; inside = omega arith }
found (suc k) r at low top a b c h = go (leb (at + 8) low) refl (λ l. found k (drop 8 r) (at + 8) (lower low (descriptor r)) top (omega (arith, lower_le low (descriptor r))) (omega arith) (omega (arith, length-drop 8 r)) (bytes_drop 8 r h))
  where
    xs : List Descriptor
    xs = upward k (drop 8 r) (at + 8) (lower low (descriptor r))

    go : (t : Bool) → leb (at + 8) low ≡ t → (at + 8 ≤ low → ArrayThere (drop 8 r) (at + 8) top (upward k (drop 8 r) (at + 8) (lower low (descriptor r))))
        → ArrayThere r at top (elim t as (λ j. List Descriptor) [ true ↦ descriptor r ∷ upward k (drop 8 r) (at + 8) (lower low (descriptor r)) | false ↦ [] ])
    go true e f =
        let l : at + 8 ≤ low = le_of (at + 8) low e in
        let w = f l in
        record {
          behind = w.behind;
          whole = eight_bytes r (omega arith) h ∙ ap (bytes_of (descriptor r)) w.whole;
          inside = omega (arith, w.inside);
        }
    go false e f = record { behind = r; whole = refl; inside = omega arith }

array_append : (xs ys : List Descriptor) (r : Bytes) → array_bytes (xs ++ ys) r ≡ array_bytes xs (array_bytes ys r)
array_append [] ys r = refl
array_append (x ∷ xs) ys r = ap (bytes_of x) (array_append xs ys r)

-- sectors that are placed above the floor leave low above it
floor_lowest : (g : Geometry) (floor low : ℕ) (ds : List Descriptor) → floor ≤ low → all (is_placed g floor) ds ≡ true → floor ≤ lowest low ds
unfolding lowest lower
floor_lowest g floor low [] l h = l
floor_lowest g floor low (d ∷ ds) l h = floor_lowest g floor (lower low d) ds (go (has_sector d) refl) (all_uncons (is_placed g floor) d ds h).1
  where
    go : (b : Bool) → has_sector d ≡ b → floor ≤ cond b (min low d.offset) low
    go true e = let a : floor ≤ d.offset = (lying g floor d (all_uncons (is_placed g floor) d ds h).0 e).above in omega arith
    go false e = l

-- ---- THE law: a unit that passes for a home is laid out as it is read
module _ (g : Geometry) (u : Bytes) (wide : header_bytes ≤ g.size) (len : length u ≡ g.size) (bytes : are_bytes u ≡ true) (home : is_home g u (room_of g u) ≡ true) where
  abbrev arr : List Descriptor
  arr = (room_of g u).array

  abbrev xs : List Descriptor
  xs = upward g.size (drop header_bytes u) header_bytes g.size

  parts : HomeParts g u (room_of g u)
  parts = home_parts g u (room_of g u) home

  placed : all (is_placed g (stands (length (room_of g u).array))) (room_of g u).array ≡ true
  unfolding n
  placed = parts.placed

  all_found : ArrayThere (drop header_bytes u) header_bytes g.size (upward g.size (drop header_bytes u) header_bytes g.size)
  all_found = found g.size (drop header_bytes u) header_bytes g.size g.size (omega arith) wide (omega (arith, length-drop header_bytes u)) (bytes_drop header_bytes u bytes)

  cut : Trimmed (upward g.size (drop header_bytes u) header_bytes g.size)
  cut = trimmed (upward g.size (drop header_bytes u) header_bytes g.size)

  count : stands (length (room_of g u).array) ≤ g.size
  unfolding room_for room_of stands
  count = omega (arith, all_found.inside, ap length cut.whole, length-append (trim xs) cut.rest)

  below : stands (length (room_of g u).array) ≤ (room_of g u).low
  unfolding room_of room_for
  below = floor_lowest g (stands (length arr)) g.size arr count placed

  above : (room_of g u).low ≤ g.size
  unfolding room_of room_for
  above = lowest_le g.size arr

  array_there : drop header_bytes u ≡ array_bytes (room_of g u).array (drop (stands (length (room_of g u).array)) u)
  unfolding room_of room_for stands
  array_there = whole ∙ ap (array_bytes arr) (sym (drop_array arr after) ∙ ap (drop (8 * length arr)) (sym whole) ∙ drop-drop (8 * length arr) header_bytes u)
    where
      after : Bytes
      after = array_bytes cut.rest all_found.behind

      whole : drop header_bytes u ≡ array_bytes (trim xs) after
      whole = all_found.whole ∙ ap (λ (l : List Descriptor). array_bytes l all_found.behind) cut.whole ∙ array_append (trim xs) cut.rest all_found.behind

  gap_there : drop (stands (length (room_of g u).array)) u ≡ replicate (gap (room_of g u)) 255 ++ drop (room_of g u).low u
  unfolding gap n
  gap_there =
      sym (take-append-drop free (drop floor u))
      ∙ ap₂ (λ (a b : Bytes). a ++ b) (erased_is_lem (take free (drop floor u)) parts.gap ∙ ap (λ (k : ℕ). replicate k 255) (length-take-le free (drop floor u) (omega (arith, length-drop floor u, above, below))))
      (drop-drop free floor u ∙ ap (λ (k : ℕ). drop k u) sum)
    where
      floor : ℕ
      floor = stands (length arr)

      free : ℕ
      free = (room_of g u).low - floor

      sum : floor + free ≡ (room_of g u).low
      sum = omega (arith, below)

  pub laid_out : u ≡ layout (word u 0) (word u 2) (head_of u) (room_of g u).array (gap (room_of g u)) (drop (room_of g u).low u)
  laid_out =
      header_there u (omega arith) bytes
      ∙ ap (λ (x : Bytes). le (word u 0) (le (word u 2) (head_bytes (head_of u) x))) (array_there ∙ ap (array_bytes arr) gap_there)

  pub is_good : Good g (room_of g u).array (gap (room_of g u)) (drop (room_of g u).low u)
  unfolding n room_for gap room_of
  is_good =
      record {
        low = omega (arith, below);
        fills = omega (arith, below, above, length-drop (room_of g u).low u);
        ends = tight_trim xs;
        listed = parts.listed;
        sectors = placed;
        clear = parts.apart;
        bytes = bytes_drop (room_of g u).low u bytes;
      }
