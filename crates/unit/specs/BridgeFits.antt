-- The vacant position, and what fits: as a unit stands, and as a reclaim would leave it.
use Rattle.std.specs.Prelude.{◌≡◌, Bool, cond, ◌&&◌, ◌||◌, List, [], ◌∷◌, ℕ, zero, suc, ◌+◌, ◌-◌, ◌≤◌, ◌<◌, ltb, length, take, drop}
use Rattle.std.proofs.Math.Path.{refl}
use Rattle.std.proofs.Common.{sym, ap, ◌∙◌, arith}
use Rattle.std.proofs.Math.Bool.{true, false}
use Rattle.std.proofs.Math.Dec.{leb}
use borrow.Author.Tests.{le-leb, lt-leb}
use Rattle.rules.specs.Flash.{Bytes}
use Rattle.rules.specs.Unit
use Rattle.rules.specs.Unit.{Descriptor, descriptor, is_empty, size, stands, header_bytes, descriptor_bytes, blank, trim, room_for}
use Rattle.rules.specs.Copy.{is_kept, packed}
use Rattle.rules.specs.Jobs.{vacant, fits}
use Rattle.rules.specs.declared.Geometry.{Geometry}
use Rattle.laws.specs.Copies.{packed_left, moved}
use Rattle.laws.specs.Copied.{blank_empty, kept_full, trim_kept}
use Rattle.unit.specs.declared.Room.{Room}
use Rattle.unit.specs.Shapes.{table, array_of, kept_from, unkept, RoomIs, Read}
use Rattle.unit.specs.Laws.{Inside, room_in_lem}
use Rattle.unit.specs.Tests.{no}
use Rattle.unit.specs.BridgeRoom.{kept_gives, room_gives, array_is}

-- ---- the vacant position

module _ (d : Descriptor) (ds : List Descriptor) where
  pub vacant_here : is_empty d ≡ true → vacant (d ∷ ds) ≡ 0
  unfolding vacant
  vacant_here h = rw (h, vacant)

  pub vacant_next : is_empty d ≡ false → vacant (d ∷ ds) ≡ suc (vacant ds)
  unfolding vacant
  vacant_next h = rw (h, vacant)

module _ (d : Descriptor) (ds : List Descriptor) where
  pub unkept_here : is_kept d ≡ false → unkept (d ∷ ds) ≡ 0
  unfolding unkept
  unkept_here h = rw (h, unkept)

  pub unkept_next : is_kept d ≡ true → unkept (d ∷ ds) ≡ suc (unkept ds)
  unfolding unkept
  unkept_next h = rw (h, unkept)

vacant_unkept : (ds : List Descriptor) (low : ℕ) → unkept (take (length (trim (packed low ds))) ds) ≡ vacant (trim (packed low ds))
unfolding packed trim unkept vacant
vacant_unkept [] low = refl
vacant_unkept (d ∷ ds) low = go (λ l. vacant_unkept ds l) (is_kept d) refl
  where
    behind : is_kept d ≡ false → (t : List Descriptor) (b : Bool) → b ≡ true
        → unkept (take (length {A = Descriptor} (elim t as (λ (x : List Descriptor). List Descriptor) [ [] ↦ cond b [] (blank ∷ []) | e ∷ es ↦ blank ∷ (e ∷ es) ])) (d ∷ ds))
        ≡ vacant (elim t as (λ (x : List Descriptor). List Descriptor) [ [] ↦ cond b [] (blank ∷ []) | e ∷ es ↦ blank ∷ (e ∷ es) ])
    behind h [] true q = refl
    behind h [] false q = no q
    behind h (e ∷ es) b q = unkept_here d (take (length (e ∷ es)) ds) h ∙ sym (vacant_here blank (e ∷ es) blank_empty)

    go : ((l : ℕ) → unkept (take (length (trim (packed l ds))) ds) ≡ vacant (trim (packed l ds))) → (b : Bool) → is_kept d ≡ b
        → unkept (take (length (trim (packed low (d ∷ ds)))) (d ∷ ds)) ≡ vacant (trim (packed low (d ∷ ds)))
    go rec true h =
        let o = low - size d in
        rw (trim_kept d ds low h)
        (rw (unkept_next d (take (length (trim (packed o ds))) ds) h, vacant_next (moved o d) (trim (packed o ds)) (kept_full d h o)) (ap suc (rec o)))
    go rec false h = rw (packed_left d ds low h) (behind h (trim (packed low ds)) (is_empty blank) blank_empty)

take_table : (m n : ℕ) (r : Bytes) → m ≤ n → take m (table n r) ≡ table m r
unfolding table
take_table zero n r h = refl
take_table (suc m) zero r h = absurd (omega arith)
take_table (suc m) (suc n) r h = ap (λ (l : List Descriptor). descriptor r ∷ l) (take_table m n (drop descriptor_bytes r) (omega arith))

-- the first m positions of the n, where a reclaim would leave m
pub unkept_is : (g : Geometry) (n m : ℕ) (u : Bytes) → m ≤ n → m ≡ Unit.n (room_for g (packed g.size (array_of n u)))
    → unkept (array_of m u) ≡ vacant (room_for g (packed g.size (array_of n u))).array
unfolding array_of room_for Unit.n
unkept_is g n m u h e =
    ap unkept (sym (take_table m n (drop header_bytes u) h)) ∙ ap (λ (k : ℕ). unkept (take k (table n (drop header_bytes u)))) e ∙ vacant_unkept (table n (drop header_bytes u)) g.size

-- ---- a room that was read

module _ (g : Geometry) (u : Bytes) (r : Room) (read : Read g u r) where
  pub read_gives : RoomIs r (Unit.room_of g u)
  read_gives = rw read.room (room_gives g u)

  pub read_array : array_of r.n u ≡ (Unit.room_of g u).array
  read_array = rw read.room (array_is g u)

  pub read_in : Inside r g.size
  read_in = rw read.room (room_in_lem g.size u read.large)

  -- and as a reclaim would leave it
  module _ (c : Room) (is : c ≡ kept_from (array_of r.n u) 0 (length u) 0) where
    pub kept_is : RoomIs c (room_for g (packed g.size (Unit.room_of g u).array))
    kept_is = rw (is, read.whole, ← read_array) (kept_gives g (array_of r.n u))

  pub kept_vacant : (c : Room) → RoomIs c (room_for g (packed g.size (Unit.room_of g u).array)) → c.n ≤ r.n
      → unkept (array_of c.n u) ≡ vacant (room_for g (packed g.size (Unit.room_of g u).array)).array
  kept_vacant c is h = rw (← read_array) (unkept_is g r.n c.n u h (rw read_array is.n))

-- ---- what fits

module _ (r : Room) (room : Unit.Room) (e : ℕ) (is : RoomIs r room) where
  pub gap_is : Unit.gap room ≡ r.low - stands r.n
  unfolding Unit.gap
  gap_is = rw (is.n, is.low)

  pub fits_none : r.low - stands r.n < e → fits e room ≡ false
  unfolding fits
  fits_none h =
      rw (gap_is, lt-leb e (r.low - stands r.n) h, lt-leb (e + descriptor_bytes) (r.low - stands r.n) (omega arith)) (go (ltb (vacant room.array) (Unit.n room)))
    where
      go : (b : Bool) → (b && false || false) ≡ false
      go true = refl
      go false = refl

  pub fits_beside : e + descriptor_bytes ≤ r.low - stands r.n → fits e room ≡ true
  unfolding fits
  fits_beside h = rw (gap_is, le-leb (e + descriptor_bytes) (r.low - stands r.n) h) (go (ltb (vacant room.array) (Unit.n room) && leb e (r.low - stands r.n)))
    where
      go : (b : Bool) → (b || true) ≡ true
      go true = refl
      go false = refl

  pub fits_vacant : e ≤ r.low - stands r.n → r.low - stands r.n < e + descriptor_bytes → fits e room ≡ ltb (vacant room.array) r.n
  unfolding fits
  fits_vacant h k =
      rw (gap_is, le-leb e (r.low - stands r.n) h, lt-leb (e + descriptor_bytes) (r.low - stands r.n) k, is.n) (go (ltb (vacant room.array) (Unit.n room)))
    where
      go : (b : Bool) → (b && true || false) ≡ b
      go true = refl
      go false = refl
