-- A unit's bytes from its parts, and that reading them gives the parts.
use Rattle.std.specs.Prelude.{Bool, ◌||◌, false, true, ◌≡◌, ◌*◌, ◌+◌, ◌-◌, ◌≤◌, min, suc, zero, ℕ, eqb, leb, ltb, take}
use Rattle.std.proofs.Math.Bool.{cond, not}
use mathlib.Core.List.{List, [], ◌++◌, ◌∷◌}
use Rattle.std.proofs.Common.{◌∙◌, ap₂, suc-add, zero-add, arith, length-append, drop-drop, take_at}
use Rattle.std.proofs.Math.Path.{ap, refl, sym}
use Rattle.std.proofs.Math.ListN.{drop, length, replicate}
use Rattle.std.proofs.lemmas.List.{length-replicate}
use Rattle.rules.specs.Flash.{Bytes, erased, word}
use Rattle.rules.specs.Lists.{all}
use Rattle.rules.specs.Unit.{Descriptor, Room, all_apart, apart, blank, descriptor, disjoint, has_sector, header_bytes, is_empty, is_header, is_home, is_listed, is_placed, lies}
use Rattle.rules.specs.Unit.{gap, is_allocated, is_current, is_data, is_mark, is_old, is_pending, is_tagged, is_transaction, lower, lowest, n, room_for, room_of, size, stands, trim, upward}
use Rattle.rules.specs.declared.Geometry.{Geometry}
use Rattle.laws.specs.Rooms.{lower_le, lowest_le}
use Rattle.laws.specs.Words.{two_bytes}
use Rattle.theory.specs.Base.Facts.{all_change, all_replace, all_replicate, both, le_of, leb_of, length_mid, true_false}
use Rattle.theory.specs.Base.Along.{le}
use Rattle.theory.specs.Images.Head.{Head, head_bytes, headed, header_of}

abbrev pub bytes_of : Descriptor → Bytes → Bytes
bytes_of d r = le d.flags (le d.offset (le d.len (le d.tag r)))

abbrev pub array_bytes : List Descriptor → Bytes → Bytes
array_bytes [] r = r
array_bytes (d ∷ ds) r = bytes_of d (array_bytes ds r)

abbrev pub layout : ℕ → ℕ → Head → List Descriptor → ℕ → Bytes → Bytes
layout L st head ds free rest = le L (le st (head_bytes head (array_bytes ds (replicate free 255 ++ rest))))

pub descriptor_bytes_lem : (d : Descriptor) (r : Bytes) → descriptor (bytes_of d r) ≡ d
unfolding descriptor word
descriptor_bytes_lem d r = λ i. record { flags = two_bytes d.flags i; offset = two_bytes d.offset i; len = two_bytes d.len i; tag = two_bytes d.tag i }

read_array : (ds : List Descriptor) (k at low : ℕ) (r : Bytes) → at + 8 * length ds ≤ lowest low ds
    → upward (length ds + k) (array_bytes ds r) at low ≡ ds ++ upward k r (at + 8 * length ds) (lowest low ds)
unfolding lowest upward
read_array [] k at low r h = ap₂ (λ (a b : ℕ). upward a r b low) (zero-add k) here
  where
    here : at ≡ at + 8 * 0
    here = omega arith
read_array (d ∷ ds) k at low r h =
    ap (λ (a : ℕ). upward a (array_bytes (d ∷ ds) r) at low) (suc-add (length ds) k)
    ∙ ap (λ (b : Bool). elim b as (λ j. List Descriptor) [
      | true ↦ descriptor (bytes_of d (array_bytes ds r)) ∷ upward (length ds + k) (array_bytes ds r) (at + 8) (lower low (descriptor (bytes_of d (array_bytes ds r))))
      | false ↦ []
    ]) (leb_of (at + 8) low (omega (arith, lowest_le (lower low d) ds, lower_le low d)))
    ∙ ap (λ (e : Descriptor). e ∷ upward (length ds + k) (array_bytes ds r) (at + 8) (lower low e)) (descriptor_bytes_lem d (array_bytes ds r))
    ∙ ap {B = List Descriptor} (λ (y : List Descriptor). d ∷ y)
    (read_array ds k (at + 8) (lower low d) r (omega arith)
    ∙ ap (λ (a : ℕ). ds ++ upward k r a (lowest (lower low d) ds)) (omega arith))

eight : (free : ℕ) → 8 ≤ free → suc (suc (suc (suc (suc (suc (suc (suc (free - 8)))))))) ≡ free
eight free h = omega arith

trim_blank : (ds : List Descriptor) → trim ds ≡ [] → trim (blank ∷ ds) ≡ []
unfolding trim is_empty blank
trim_blank ds e = ap (λ (y : List Descriptor). elim y as (λ j. List Descriptor) [ [] ↦ cond (is_empty blank) [] (blank ∷ []) | e ∷ es ↦ blank ∷ (e ∷ es) ]) e

-- the gap reads as nothing
read_gap : (k free at low : ℕ) (r : Bytes) → at + free ≡ low → trim (upward k (replicate free 255 ++ r) at low) ≡ []
unfolding trim upward descriptor blank lower word has_sector is_allocated is_pending is_current is_old
read_gap zero free at low r e = refl
read_gap (suc k) free at low r e = go (leb (at + 8) low) refl (λ h. read_gap k (free - 8) (at + 8) low r (omega arith))
  where
    more : trim (upward k (replicate (free - 8) 255 ++ r) (at + 8) low) ≡ [] → 8 ≤ free → trim (descriptor (replicate free 255 ++ r) ∷ upward k (drop 8 (replicate free 255 ++ r)) (at + 8) (lower low (descriptor (replicate free 255 ++ r)))) ≡ []
    more ih h =
        ap (λ (x : ℕ). trim (descriptor (replicate x 255 ++ r) ∷ upward k (drop 8 (replicate x 255 ++ r)) (at + 8) (lower low (descriptor (replicate x 255 ++ r))))) (sym (eight free h))
        ∙ trim_blank (upward k (replicate (free - 8) 255 ++ r) (at + 8) low) ih

    go : (b : Bool) → leb (at + 8) low ≡ b → (8 ≤ free → trim (upward k (replicate (free - 8) 255 ++ r) (at + 8) low) ≡ [])
        → trim (elim b as (λ j. List Descriptor)
        [ true ↦ descriptor (replicate free 255 ++ r) ∷ upward k (drop 8 (replicate free 255 ++ r)) (at + 8) (lower low (descriptor (replicate free 255 ++ r))) | false ↦ [] ]) ≡ []
    go false h f = refl
    go true h f = let l : 8 ≤ free = omega (arith, le_of (at + 8) low h) in more (f l) l

-- its last descriptor is not empty
abbrev pub tight : List Descriptor → Bool
tight [] = true
tight (d ∷ []) = not (is_empty d)
tight (d ∷ (e ∷ es)) = tight (e ∷ es)

trim_tight : (ds xs : List Descriptor) → trim xs ≡ [] → tight ds ≡ true → trim (ds ++ xs) ≡ ds
unfolding trim
trim_tight [] xs e t = e
trim_tight (d ∷ []) xs e t = ap (λ (y : List Descriptor). elim y as (λ j. List Descriptor) [ [] ↦ cond (is_empty d) [] (d ∷ []) | e ∷ es ↦ d ∷ (e ∷ es) ]) e ∙ go (is_empty d) t
  where
    go : (b : Bool) → not b ≡ true → cond b [] (d ∷ []) ≡ d ∷ []
    go true t = true_false false t refl
    go false t = refl
trim_tight (d ∷ (c ∷ ds)) xs e t =
    ap (λ (y : List Descriptor). elim y as (λ j. List Descriptor) [ [] ↦ cond (is_empty d) [] (d ∷ []) | e ∷ es ↦ d ∷ (e ∷ es) ]) (trim_tight (c ∷ ds) xs e t)

-- a byte is below 256
abbrev pub is_byte : ℕ → Bool
is_byte b = ltb b 256

abbrev pub are_bytes : Bytes → Bool
are_bytes c = all is_byte c

-- ---- a home's parts are as they must be
pub record Good (g : Geometry) (ds : List Descriptor) (free : ℕ) (rest : Bytes) : Type 0 where
  pub low : lowest g.size ds ≡ stands (length ds) + free
  pub fills : stands (length ds) + (free + length rest) ≡ g.size
  pub ends : tight ds ≡ true
  pub listed : all is_listed ds ≡ true
  pub sectors : all (is_placed g (stands (length ds))) ds ≡ true
  pub clear : all_apart ds ≡ true
  pub bytes : are_bytes rest ≡ true

module _ (g : Geometry) (L st : ℕ) (head : Head) (ds : List Descriptor) (free : ℕ) (rest : Bytes) (h : Good g ds free rest) where
  abbrev pub the_room : Room
  the_room = record { array = ds; low = stands (length ds) + free }

  read_all : trim (upward g.size (array_bytes ds (replicate free 255 ++ rest)) header_bytes g.size) ≡ ds
  unfolding stands
  read_all =
      ap (λ (x : ℕ). trim (upward x (array_bytes ds (replicate free 255 ++ rest)) header_bytes g.size)) enough
      ∙ ap trim (read_array ds (g.size - length ds) header_bytes g.size (replicate free 255 ++ rest) (omega (arith, h.low)))
      ∙ trim_tight ds _ (read_gap (g.size - length ds) free (stands (length ds)) (lowest g.size ds) rest (omega (arith, h.low))) h.ends
    where
      enough : g.size ≡ length ds + (g.size - length ds)
      enough = omega (arith, h.fills)

  pub room_layout : room_of g (layout L st head ds free rest) ≡ the_room
  unfolding room_of room_for
  room_layout = ap (λ (t : List Descriptor). record { array = t; low = lowest g.size t }) read_all ∙ (λ i. record { array = ds; low = h.low i })

-- ---- a home passes its check
pub drop_array : (ds : List Descriptor) (r : Bytes) → drop (8 * length ds) (array_bytes ds r) ≡ r
drop_array [] r = refl
drop_array (d ∷ ds) r =
    ap (λ (k : ℕ). drop k (array_bytes (d ∷ ds) r)) more ∙ sym (drop-drop (8 * length ds) 8 (array_bytes (d ∷ ds) r)) ∙ drop_array ds r
  where
    more : 8 * suc (length ds) ≡ 8 + 8 * length ds
    more = omega arith

module _ (g : Geometry) (L st : ℕ) (head : Head) (ds : List Descriptor) (free : ℕ) (rest : Bytes) (h : Good g ds free rest) where
  gap_erased : erased (take (stands (length ds) + free - (stands (length ds))) (drop (stands (length ds)) (layout L st head ds free rest))) ≡ true
  unfolding stands erased
  gap_erased = ap erased same ∙ all_replicate (eqb 255) free 255 refl
    where
      off : drop (stands (length ds)) (layout L st head ds free rest) ≡ replicate free 255 ++ rest
      off = sym (drop-drop (8 * length ds) header_bytes (layout L st head ds free rest)) ∙ drop_array ds (replicate free 255 ++ rest)

      wide : stands (length ds) + free - (stands (length ds)) ≡ free
      wide = omega arith

      same : take (stands (length ds) + free - (stands (length ds))) (drop (stands (length ds)) (layout L st head ds free rest)) ≡ replicate free 255
      same = ap₂ (λ (k : ℕ) (l : Bytes). take k l) wide off ∙ take_at (replicate free 255) rest free (length-replicate free 255)

  pub home_ok_lem : is_home g (layout L st head ds free rest) (the_room g L st head ds free rest h) ≡ true
  unfolding is_home gap n
  home_ok_lem = both (both (both gap_erased h.listed) h.sectors) h.clear

-- its header is the one that was laid
pub header_ok : (L st : ℕ) (head : Head) (ds : List Descriptor) (free : ℕ) (rest : Bytes) → headed head ≡ true → is_header (layout L st head ds free rest) ≡ true
header_ok L st head ds free rest k = header_of L st head (array_bytes ds (replicate free 255 ++ rest)) ∙ k

-- ---- one descriptor's flags
abbrev pub with_flags : ℕ → Descriptor → Descriptor
with_flags f d = record { flags = f; offset = d.offset; len = d.len; tag = d.tag }

pub apart_change : (xs : List Descriptor) (d e : Descriptor) (ys : List Descriptor) → ((x : Descriptor) → apart e x ≡ apart d x) → ((x : Descriptor) → apart x e ≡ apart x d)
    → all_apart (xs ++ e ∷ ys) ≡ all_apart (xs ++ d ∷ ys)
unfolding all_apart
apart_change [] d e ys h k = ap (λ (b : Bool). elim b as (λ j. Bool) [ true ↦ all_apart ys | false ↦ false ]) ((ap (λ (f : Descriptor → Bool). all f ys) (λ i x. h x i)))
apart_change (x ∷ xs) d e ys h k =
    ap₂ (λ (b r : Bool). elim b as (λ j. Bool) [ true ↦ r | false ↦ false ]) (all_change (apart x) xs d e ys (k x)) (apart_change xs d e ys h k)

pub lowest_change : (low : ℕ) (xs : List Descriptor) (d e : Descriptor) (ys : List Descriptor) → ((l : ℕ) → lower l e ≡ lower l d) → lowest low (xs ++ e ∷ ys) ≡ lowest low (xs ++ d ∷ ys)
unfolding lowest
lowest_change low [] d e ys h = ap (λ (l : ℕ). lowest l ys) (h low)
lowest_change low (x ∷ xs) d e ys h = lowest_change (lower low x) xs d e ys h

pub tight_change : (xs : List Descriptor) (d e : Descriptor) (ys : List Descriptor) → is_empty e ≡ false → tight (xs ++ d ∷ ys) ≡ true → tight (xs ++ e ∷ ys) ≡ true
tight_change [] d e [] h t = ap not h
tight_change [] d e (y ∷ ys) h t = t
tight_change (x ∷ []) d e ys h t = tight_change [] d e ys h t
tight_change (x ∷ (z ∷ xs)) d e ys h t = tight_change (z ∷ xs) d e ys h t

module _ (g : Geometry) (xs : List Descriptor) (d : Descriptor) (ys : List Descriptor) (free : ℕ) (rest : Bytes) (f : ℕ)
    (same : has_sector (with_flags f d) ≡ has_sector d) (is : is_listed (with_flags f d) ≡ true) (full : is_empty (with_flags f d) ≡ false) where
  pub flags_good : Good g (xs ++ d ∷ ys) free rest → Good g (xs ++ with_flags f d ∷ ys) free rest
  unfolding lower is_placed lies size is_tagged is_data is_mark is_transaction apart disjoint
  flags_good h =
      record {
        low = lowest_change g.size xs d e ys (λ l. ap (λ (b : Bool). cond b (min l d.offset) l) same) ∙ h.low ∙ ap (λ (n : ℕ). stands n + free) (sym len);
        fills = ap (λ (n : ℕ). stands n + (free + length rest)) len ∙ h.fills;
        ends = tight_change xs d e ys full h.ends;
        listed = all_replace is_listed xs d e ys is h.listed;
        sectors =
            ap (λ (n : ℕ). all (is_placed g (stands n)) (xs ++ e ∷ ys)) len
            ∙ all_change (is_placed g (stands N)) xs d e ys (ap (λ (b : Bool). not b || lies g (stands N) d) same) ∙ h.sectors;
        clear =
            apart_change xs d e ys (λ x. ap (λ (b : Bool). not b || not (has_sector x) || disjoint d x) same)
            (λ x. ap (λ (b : Bool). not (has_sector x) || not b || disjoint x d) same) ∙ h.clear;
        bytes = h.bytes;
      }
    where
      e : Descriptor
      e = with_flags f d

      N : ℕ
      N = length (xs ++ d ∷ ys)

      len : length (xs ++ with_flags f d ∷ ys) ≡ length (xs ++ d ∷ ys)
      len = length_mid xs d (with_flags f d) ys

-- ---- where a descriptor's first word stands in the unit
abbrev pub before : ℕ → ℕ → Head → List Descriptor → Bytes
before L st head xs = le L (le st (head_bytes head (array_bytes xs [])))

abbrev pub behind : Descriptor → List Descriptor → ℕ → Bytes → Bytes
behind d ys free rest = le d.offset (le d.len (le d.tag (array_bytes ys (replicate free 255 ++ rest))))

pub array_split : (xs ys : List Descriptor) (r : Bytes) → array_bytes (xs ++ ys) r ≡ array_bytes xs [] ++ array_bytes ys r
array_split [] ys r = refl
array_split (x ∷ xs) ys r = ap (λ (l : Bytes). bytes_of x l) (array_split xs ys r)

pub layout_split : (L st : ℕ) (head : Head) (xs : List Descriptor) (d : Descriptor) (ys : List Descriptor) (free : ℕ) (rest : Bytes)
    → layout L st head (xs ++ d ∷ ys) free rest ≡ before L st head xs ++ le d.flags (behind d ys free rest)
layout_split L st head xs d ys free rest = ap (λ (l : Bytes). le L (le st (head_bytes head l))) (array_split xs (d ∷ ys) (replicate free 255 ++ rest))

pub length_array : (ds : List Descriptor) (r : Bytes) → length (array_bytes ds r) ≡ 8 * length ds + length r
length_array [] r = omega arith
length_array (d ∷ ds) r = omega (arith, length_array ds r)

pub length_before : (L st : ℕ) (head : Head) (xs : List Descriptor) → length (before L st head xs) ≡ stands (length xs)
unfolding stands
length_before L st head xs = omega (arith, length_array xs [])

pub length_layout : (g : Geometry) (L st : ℕ) (head : Head) (ds : List Descriptor) (free : ℕ) (rest : Bytes) → Good g ds free rest → length (layout L st head ds free rest) ≡ g.size
unfolding stands
length_layout g L st head ds free rest h = omega (arith, length_array ds (replicate free 255 ++ rest), simp length-replicate at (length-append (replicate free 255) rest), h.fills)
