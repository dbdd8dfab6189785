-- The array read in one walk, to n and low, is the reader's: read upward, trimmed, and the lowest offset of what is left.
-- So is the array as a reclaim would leave it, without building it.
use Rattle.std.specs.Prelude.{◌≡◌, refl, Bool, true, false, cond, List, [], ◌∷◌, ℕ, zero, suc, ◌+◌, ◌-◌, leb, length, drop}
use Rattle.std.proofs.Math.Path.{sym}
use Rattle.std.proofs.Common.{ap, ◌∙◌, arith}
use Rattle.rules.specs.Flash.{Bytes}
use Rattle.rules.specs.Unit
use Rattle.rules.specs.Unit.{Descriptor, descriptor, is_empty, size, lower, stands, header_bytes, descriptor_bytes, blank, lowest, trim, room_for}
use Rattle.rules.specs.Copy.{is_kept, packed}
use Rattle.rules.specs.declared.Geometry.{Geometry}
use Rattle.laws.specs.Copies.{packed_kept, packed_left, moved}
use Rattle.laws.specs.Copied.{blank_empty, kept_full, lowest_kept, lowest_left}
use Rattle.laws.specs.Rooms.{lowest_trim}
use Rattle.unit.specs.declared.Room.{Room}
use Rattle.unit.specs.Shapes.{reach, upward, room_of, table, array_of, kept_from, RoomIs}

-- ---- trimming

-- one more than the last of what was trimmed, at position p
unfoldable reach_of : ℕ → ℕ → List Descriptor → ℕ
reach_of n p [] = n
reach_of n p (e ∷ es) = p + length (e ∷ es)

trim_reach : (n p : ℕ) (d : Descriptor) (ds : List Descriptor) → reach_of (cond (is_empty d) n (p + 1)) (p + 1) (trim ds) ≡ reach_of n p (trim (d ∷ ds))
unfolding reach_of trim
trim_reach n p d ds = go (trim ds) (is_empty d)
  where
    go : (t : List Descriptor) (b : Bool)
        → reach_of (cond b n (p + 1)) (p + 1) t ≡ reach_of n p (elim t as (λ (x : List Descriptor). List Descriptor) [ [] ↦ cond b [] (d ∷ []) | e ∷ es ↦ d ∷ (e ∷ es) ])
    go [] true = refl
    go [] false = refl
    go (e ∷ es) b = omega arith

-- ---- the array read upward

next : (p : ℕ) → stands (p + 1) ≡ stands p + descriptor_bytes
unfolding stands
next p = omega arith

upward_low : (k : ℕ) (r : Bytes) (p low n : ℕ) → (upward k r p low n).low ≡ lowest low (Unit.upward k r (stands p) low)
unfolding upward Unit.upward lowest
upward_low zero r p low n = refl
upward_low (suc k) r p low n =
    go (leb (stands p + descriptor_bytes) low) (upward k rest (p + 1) (lower low d) (reach d n p)) (Unit.upward k rest (stands p + descriptor_bytes) (lower low d))
    (upward_low k rest (p + 1) (lower low d) (reach d n p) ∙ rw (next p))
  where
    d : Descriptor
    d = descriptor r

    rest : Bytes
    rest = drop descriptor_bytes r

    go : (b : Bool) (x : Room) (ds : List Descriptor) → x.low ≡ lowest (lower low d) ds
        → (elim b as (λ (y : Bool). Room) [ true ↦ x | false ↦ record { n = n; low = low } ]).low
        ≡ lowest low (elim b as (λ (y : Bool). List Descriptor) [ true ↦ d ∷ ds | false ↦ [] ])
    go true x ds h = h
    go false x ds h = refl

upward_n : (k : ℕ) (r : Bytes) (p low n : ℕ) → (upward k r p low n).n ≡ reach_of n p (trim (Unit.upward k r (stands p) low))
unfolding upward Unit.upward trim reach reach_of
upward_n zero r p low n = refl
upward_n (suc k) r p low n =
    go (leb (stands p + descriptor_bytes) low) (upward k rest (p + 1) (lower low d) (reach d n p)) (Unit.upward k rest (stands p + descriptor_bytes) (lower low d))
    (upward_n k rest (p + 1) (lower low d) (reach d n p) ∙ rw (next p))
  where
    d : Descriptor
    d = descriptor r

    rest : Bytes
    rest = drop descriptor_bytes r

    go : (b : Bool) (x : Room) (ds : List Descriptor) → x.n ≡ reach_of (reach d n p) (p + 1) (trim ds)
        → (elim b as (λ (y : Bool). Room) [ true ↦ x | false ↦ record { n = n; low = low } ]).n
        ≡ reach_of n p (trim (elim b as (λ (y : Bool). List Descriptor) [ true ↦ d ∷ ds | false ↦ [] ]))
    go true x ds h = h ∙ trim_reach n p d ds
    go false x ds h = refl

reach_length : (t : List Descriptor) → reach_of 0 0 t ≡ length t
unfolding reach_of
reach_length [] = refl
reach_length (e ∷ es) = omega arith

-- what is read is what stands there
upward_table : (k : ℕ) (r : Bytes) (at low : ℕ) → trim (Unit.upward k r at low) ≡ table (length (trim (Unit.upward k r at low))) r
unfolding Unit.upward trim table
upward_table zero r at low = refl
upward_table (suc k) r at low =
    outer (leb (at + descriptor_bytes) low) (Unit.upward k (drop descriptor_bytes r) (at + descriptor_bytes) (lower low d)) (upward_table k (drop descriptor_bytes r) (at + descriptor_bytes) (lower low d))
  where
    d : Descriptor
    d = descriptor r

    go : (t : List Descriptor) (e : Bool) → t ≡ table (length t) (drop descriptor_bytes r)
        → (elim t as (λ (x : List Descriptor). List Descriptor) [ [] ↦ cond e [] (d ∷ []) | x ∷ xs ↦ d ∷ (x ∷ xs) ])
        ≡ table (length {A = Descriptor} (elim t as (λ (x : List Descriptor). List Descriptor) [ [] ↦ cond e [] (d ∷ []) | x ∷ xs ↦ d ∷ (x ∷ xs) ])) r
    go [] true h = refl
    go [] false h = refl
    go (x ∷ xs) e h = ap (λ (l : List Descriptor). d ∷ l) h

    outer : (b : Bool) (ds : List Descriptor) → trim ds ≡ table (length (trim ds)) (drop descriptor_bytes r)
        → trim (elim b as (λ (x : Bool). List Descriptor) [ true ↦ d ∷ ds | false ↦ [] ])
        ≡ table (length (trim (elim b as (λ (x : Bool). List Descriptor) [ true ↦ d ∷ ds | false ↦ [] ]))) r
    outer true ds h = go (trim ds) (is_empty d) h
    outer false ds h = refl

module _ (g : Geometry) (u : Bytes) where
  pub room_gives : RoomIs (room_of g.size u) (Unit.room_of g u)
  unfolding room_of Unit.room_of room_for Unit.n stands
  room_gives = record {
    n = upward_n g.size (drop header_bytes u) 0 g.size 0 ∙ reach_length (trim (Unit.upward g.size (drop header_bytes u) header_bytes g.size));
    low = upward_low g.size (drop header_bytes u) 0 g.size 0 ∙ sym (lowest_trim g.size (Unit.upward g.size (drop header_bytes u) header_bytes g.size));
  }

  pub array_is : array_of (room_of g.size u).n u ≡ (Unit.room_of g u).array
  unfolding array_of Unit.room_of room_for Unit.n
  array_is = rw room_gives.n (sym (upward_table g.size (drop header_bytes u) header_bytes g.size))

-- ---- as a reclaim would leave it

packed_low : (ds : List Descriptor) (p low n : ℕ) → (kept_from ds p low n).low ≡ lowest low (packed low ds)
unfolding kept_from packed lowest
packed_low [] p low n = refl
packed_low (d ∷ ds) p low n = go (λ q l m. packed_low ds q l m) (is_kept d) refl
  where
    go : ((q l m : ℕ) → (kept_from ds q l m).low ≡ lowest l (packed l ds)) → (b : Bool) → is_kept d ≡ b
        → (kept_from ds (p + 1) (cond b (low - size d) low) (cond b (p + 1) n)).low ≡ lowest low (packed low (d ∷ ds))
    go rec true h = rec (p + 1) (low - size d) (p + 1) ∙ sym (lowest_kept d ds low h)
    go rec false h = rec (p + 1) low n ∙ sym (lowest_left d ds low h)

packed_n : (ds : List Descriptor) (p low n : ℕ) → (kept_from ds p low n).n ≡ reach_of n p (trim (packed low ds))
unfolding kept_from packed trim reach_of
packed_n [] p low n = refl
packed_n (d ∷ ds) p low n = go (λ q l m. packed_n ds q l m) (is_kept d) refl
  where
    go : ((q l m : ℕ) → (kept_from ds q l m).n ≡ reach_of m q (trim (packed l ds))) → (b : Bool) → is_kept d ≡ b
        → (kept_from ds (p + 1) (cond b (low - size d) low) (cond b (p + 1) n)).n ≡ reach_of n p (trim (packed low (d ∷ ds)))
    go rec true h =
        let o = low - size d in
        rw (packed_kept d ds low h)
        (rec (p + 1) o (p + 1)
        ∙ ap (λ (b : Bool). reach_of (cond b n (p + 1)) (p + 1) (trim (packed o ds))) (sym (kept_full d h o))
        ∙ trim_reach n p (moved o d) (packed o ds))
    go rec false h =
        rw (packed_left d ds low h)
        (rec (p + 1) low n
        ∙ ap (λ (b : Bool). reach_of (cond b n (p + 1)) (p + 1) (trim (packed low ds))) (sym blank_empty)
        ∙ trim_reach n p blank (packed low ds))

pub kept_gives : (g : Geometry) (ds : List Descriptor) → RoomIs (kept_from ds 0 g.size 0) (room_for g (packed g.size ds))
unfolding room_for Unit.n
kept_gives g ds = record {
  n = packed_n ds 0 g.size 0 ∙ reach_length (trim (packed g.size ds));
  low = packed_low ds 0 g.size 0 ∙ sym (lowest_trim g.size (packed g.size ds));
}
