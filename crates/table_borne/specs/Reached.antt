-- That a position is below n, and its sector above the array, is seen from the sectors of the positions before it.
use Rattle.std.specs.Prelude.{◌≡◌, not, ◌&&◌, ◌||◌, min, leb, ltb, length, drop}
use Rattle.std.specs.List.{list_all, range_with_len}
use Rattle.std.proofs.Math.Path.{refl, sym, ap}
use Rattle.std.proofs.Common.{◌∙◌, drop-drop}
use Rattle.std.proofs.Math.Bool.{Bool, true, false, cond}
use Prim.Native.Nat.{ℕ, zero, suc, ◌+◌, ◌*◌, ◌≤◌, ◌<◌}
use native.Mathlib.Omega.{arith}
use borrow.Author.Tests.{lt-ltb, le-ltb, le-leb, lt-leb, ltb-true, leb-true, leb-false, eqb-true}
use Rattle.rules.specs.Flash.{Bytes}
use Rattle.rules.specs.Unit.{Descriptor, descriptor, header_bytes, descriptor_bytes, stands, is_empty, is_allocated, is_pending, is_current, has_sector, lower, lies}
use Rattle.rules.specs.declared.Geometry.{Geometry}
use Rattle.laws.specs.Rooms.{lower_le}
use Rattle.unit.specs.declared.Room.{Room}
use Rattle.unit.specs.Shapes.{descriptor_at, reach, upward, room_of}
use Rattle.unit.specs.Laws.{reach_le, next_place, room_in_lem, upward_least}
use Rattle.unit.specs.Tests.{no, same}
use Rattle.table_borne.specs.Shapes.{is_over, all_over, bears_by}

-- ---- tests joined
joined : (a o x y n : Bool) → n ≡ (a && o) → (n ≡ true → y ≡ x) → (a && x && o) ≡ (n && y)
joined true true true y true e h = sym (h refl)
joined true true false y true e h = sym (h refl)
joined true true x y false e h = no e
joined true false x y true e h = no (sym e)
joined true false true y false e h = refl
joined true false false y false e h = refl
joined false o x y true e h = no (sym e)
joined false o x y false e h = refl

nothing : (a o n : Bool) → (a && false && o) ≡ (n && false)
nothing true o true = refl
nothing true o false = refl
nothing false o true = refl
nothing false o false = refl

-- ---- the array read upward, from position p on
-- what is left of it, by whether there is room for a descriptor
abbrev RestOf : ℕ → Bytes → ℕ → ℕ → ℕ → Bool → Room
RestOf k r p low n b = elim b as (λ (x : Bool). Room) [ true ↦ upward k (drop descriptor_bytes r) (p + 1) (lower low (descriptor r)) (reach (descriptor r) n p) | false ↦ record { n = n; low = low } ]

-- and the array ends at or below every bound that low keeps
upward_most : (k : ℕ) (r : Bytes) (p low n b : ℕ) → stands n ≤ b → low ≤ b → stands (upward k r p low n).n ≤ b
unfolding upward reach stands
upward_most zero r p low n b hn hl = hn
upward_most (suc k) r p low n b hn hl =
    go (leb (stands p + descriptor_bytes) low) refl (λ m. upward_most k (drop descriptor_bytes r) (p + 1) (lower low (descriptor r)) (reach (descriptor r) n p) b m (omega (arith, lower_le low (descriptor r))))
  where
    up : (x : Bool) → stands p + descriptor_bytes ≤ low → stands (cond x n (p + 1)) ≤ b
    up true l = hn
    up false l = omega arith

    go : (x : Bool) → leb (stands p + descriptor_bytes) low ≡ x
        → (stands (reach (descriptor r) n p) ≤ b → stands (upward k (drop descriptor_bytes r) (p + 1) (lower low (descriptor r)) (reach (descriptor r) n p)).n ≤ b)
        → stands (RestOf k r p low n x).n ≤ b
    go true e rec = rec (up (is_empty (descriptor r)) (leb-true (stands p + descriptor_bytes) low e))
    go false e rec = hn

-- a floor is under low with the next sector, or not
lower_over : (d : Descriptor) (low floor : ℕ) → leb floor (lower low d) ≡ (leb floor low && is_over d floor)
unfolding lower is_over
lower_over d low floor = go (has_sector d)
  where
    both : (x y : Bool) → leb floor low ≡ x → leb floor d.offset ≡ y → leb floor (min low d.offset) ≡ (x && (y || false))
    both true true p q = le-leb floor (min low d.offset) (omega (arith, leb-true floor low p, leb-true floor d.offset q))
    both true false p q = lt-leb floor (min low d.offset) (omega (arith, leb-false floor d.offset q))
    both false y p q = lt-leb floor (min low d.offset) (omega (arith, leb-false floor low p))

    bare : (x y : Bool) → x ≡ (x && (y || true))
    bare true true = refl
    bare true false = refl
    bare false y = refl

    go : (s : Bool) → leb floor (cond s (min low d.offset) low) ≡ (leb floor low && (leb floor d.offset || not s))
    go true = both (leb floor low) (leb floor d.offset) refl refl
    go false = bare (leb floor low) (leb floor d.offset)

-- the position j further on
further : (r : Bytes) (j : ℕ) → drop (8 * j) (drop descriptor_bytes r) ≡ drop (8 * suc j) r
further r j =
    let e : descriptor_bytes + 8 * j ≡ 8 * suc j = omega arith in
    drop-drop (8 * j) descriptor_bytes r ∙ ap (λ (k : ℕ). drop k r) e

-- the descriptor there
abbrev ahead : Bytes → ℕ → Descriptor
ahead r j = descriptor (drop (8 * j) r)

-- a position that is not empty is below n where no sector before it begins below its end
reached : (j k : ℕ) (r : Bytes) (p low n : ℕ) → n ≤ p → j < k → is_empty (ahead r j) ≡ false
    → ltb (p + j) (upward k r p low n).n ≡ (leb (stands (p + j) + descriptor_bytes) low && all_over j r (stands (p + j) + descriptor_bytes))
unfolding upward all_over reach
reached j zero r p low n h l e = absurd (omega arith)
reached zero (suc k) r p low n h l e =
    let q : p + 0 ≡ p = omega arith in
    rw q (go (leb (stands p + descriptor_bytes) low))
  where
    d : Descriptor
    d = descriptor r

    full : is_empty d ≡ false
    full = e

    least : p + 1 ≤ (upward k (drop descriptor_bytes r) (p + 1) (lower low d) (p + 1)).n
    least = upward_least k (drop descriptor_bytes r) (p + 1) (lower low d) (p + 1) (omega arith)

    here : p + 1 ≤ (upward k (drop descriptor_bytes r) (p + 1) (lower low d) (reach d n p)).n
    here = rw full least

    go : (b : Bool) → ltb p (RestOf k r p low n b).n ≡ (b && true)
    go true = lt-ltb p _ (omega (arith, here))
    go false = le-ltb p n h
reached (suc j) (suc k) r p low n h l e =
    go (leb (stands p + descriptor_bytes) low) refl (reached j k (drop descriptor_bytes r) (p + 1) (lower low d) (reach d n p) (reach_le d n p h) (omega arith) (ap (λ (x : Bytes). is_empty (descriptor x)) (further r j) ∙ e))
  where
    d : Descriptor
    d = descriptor r

    floor : ℕ
    floor = stands (p + suc j) + descriptor_bytes

    same_place : p + 1 + j ≡ p + suc j
    same_place = omega arith

    split : (a b c : Bool) → (a && b && c) ≡ (a && (b && c))
    split true b c = refl
    split false b c = refl

    go : (b : Bool) → leb (stands p + descriptor_bytes) low ≡ b
        → ltb (p + 1 + j) (upward k (drop descriptor_bytes r) (p + 1) (lower low d) (reach d n p)).n ≡ (leb (stands (p + 1 + j) + descriptor_bytes) (lower low d) && all_over j (drop descriptor_bytes r) (stands (p + 1 + j) + descriptor_bytes))
        → ltb (p + suc j) (RestOf k r p low n b).n ≡ (leb floor low && (is_over d floor && all_over j (drop descriptor_bytes r) floor))
    go true q rec =
        ap (λ (i : ℕ). ltb i (upward k (drop descriptor_bytes r) (p + 1) (lower low d) (reach d n p)).n) (sym same_place) ∙ rec
        ∙ ap (λ (i : ℕ). leb (stands i + descriptor_bytes) (lower low d) && all_over j (drop descriptor_bytes r) (stands i + descriptor_bytes)) same_place
        ∙ ap (λ (x : Bool). x && all_over j (drop descriptor_bytes r) floor) (lower_over d low floor)
        ∙ split (leb floor low) (is_over d floor) (all_over j (drop descriptor_bytes r) floor)
    go false q rec =
        let t : leb floor low ≡ false = unfold stands in lt-leb floor low (omega (arith, leb-false (stands p + descriptor_bytes) low q)) in
        le-ltb (p + suc j) n (omega arith) ∙ sym (rw t)

-- the array ends at or below a sector that begins above its own descriptor
ends_below : (j k : ℕ) (r : Bytes) (p low n : ℕ) → n ≤ p → has_sector (ahead r j) ≡ true → stands (p + j) + descriptor_bytes ≤ (ahead r j).offset → stands (upward k r p low n).n ≤ (ahead r j).offset
unfolding upward stands lower
ends_below j zero r p low n h s l = omega arith
ends_below zero (suc k) r p low n h s l = go (leb (stands p + descriptor_bytes) low)
  where
    d : Descriptor
    d = descriptor r

    low_is : lower low d ≤ d.offset
    low_is = rw s (omega arith)

    go : (b : Bool) → stands (RestOf k r p low n b).n ≤ d.offset
    go true = upward_most k (drop descriptor_bytes r) (p + 1) (lower low d) (reach d n p) d.offset (omega (arith, reach_le d n p h)) low_is
    go false = omega arith
ends_below (suc j) (suc k) r p low n h s l =
    let e : ahead (drop descriptor_bytes r) j ≡ ahead r (suc j) = ap descriptor (further r j) in
    go (leb (stands p + descriptor_bytes) low) (rw e at (ends_below j k (drop descriptor_bytes r) (p + 1) (lower low (descriptor r)) (reach (descriptor r) n p) (reach_le (descriptor r) n p h) (rw e s) (rw e (omega arith))))
  where
    go : (b : Bool) → stands (upward k (drop descriptor_bytes r) (p + 1) (lower low (descriptor r)) (reach (descriptor r) n p)).n ≤ (ahead r (suc j)).offset → stands (RestOf k r p low n b).n ≤ (ahead r (suc j)).offset
    go true rec = rec
    go false rec = omega arith

-- ---- the descriptor at position p of a unit
module _ (u : Bytes) (large : header_bytes ≤ length u) (p : ℕ) where
  abbrev d : Descriptor
  d = descriptor_at u (stands p)

  abbrev m : ℕ
  m = (room_of (length u) u).n

  abbrev floor : ℕ
  floor = stands (p + 1)

  -- it is ahead of the first position by p
  ahead_is : ahead (drop header_bytes u) p ≡ d
  unfolding stands
  ahead_is = ap descriptor (drop-drop (8 * p) header_bytes u)

  -- its end, as a count from 0 has it and as the code has it
  zero_p : 0 + p ≡ p
  zero_p = omega arith

  floor_is : stands p + descriptor_bytes ≡ floor
  unfolding stands
  floor_is = omega arith

  -- current, it is below n where its end is in the unit and no sector before it begins below that
  below_n : d.flags ≡ 0xFFF8 → ltb p m ≡ (leb floor (length u) && all_over p (drop header_bytes u) floor)
  unfolding room_of is_empty
  below_n e = go (leb floor (length u)) refl
    where
      full : is_empty (ahead (drop header_bytes u) p) ≡ false
      full = ap is_empty ahead_is ∙ rw e

      go : (b : Bool) → leb floor (length u) ≡ b → ltb p m ≡ (b && all_over p (drop header_bytes u) floor)
      go true q =
          let l : p < length u = unfold stands in omega (arith, leb-true floor (length u) q) in
          rw (zero_p, floor_is, q) at (reached p (length u) (drop header_bytes u) 0 (length u) 0 (omega arith) l full)
      go false q = unfold stands in le-ltb p m (omega (arith, leb-false floor (length u) q, (room_in_lem (length u) u large).n))

  -- and where it is, its sector is above the array where it begins at or above that end
  under : d.flags ≡ 0xFFF8 → p < m → leb (stands m) d.offset ≡ leb floor d.offset
  unfolding room_of has_sector is_allocated is_pending is_current
  under e l = same (leb (stands m) d.offset) (leb floor d.offset) (λ x. unfold stands in le-leb floor d.offset (omega (arith, leb-true (stands m) d.offset x))) (λ x. le-leb (stands m) d.offset (ends x))
    where
      sector : has_sector (ahead (drop header_bytes u) p) ≡ true
      sector = ap has_sector ahead_is ∙ rw e

      ends : leb floor d.offset ≡ true → stands m ≤ d.offset
      ends x = rw ahead_is at (ends_below p (length u) (drop header_bytes u) 0 (length u) 0 (omega arith) sector (rw (ahead_is, zero_p, floor_is) (leb-true floor d.offset x)))

  module _ (g : Geometry) (l f : ℕ) where
    bears_none : is_current d ≡ false → (at : ℕ) → bears_by g d at l f ≡ false
    unfolding bears_by
    bears_none e at = rw e

    read : is_current d ≡ true → ltb p m ≡ (leb floor (length u) && all_over p (drop header_bytes u) floor)
    unfolding is_current
    read e = below_n (eqb-true d.flags 0xFFF8 e)

    bears_same : is_current d ≡ true → ltb p m ≡ true → bears_by g d (stands m) l f ≡ bears_by g d floor l f
    unfolding bears_by lies is_current
    bears_same e t = rw (under (eqb-true d.flags 0xFFF8 e) (ltb-true p m t))

    -- what the descriptor bears out, by the positions before it and not by n
    pub near : (leb floor (length u) && bears_by g d floor l f && all_over p (drop header_bytes u) floor) ≡ (ltb p m && bears_by g d (stands m) l f)
    near = go (is_current d) refl
      where
        go : (b : Bool) → is_current d ≡ b → (leb floor (length u) && bears_by g d floor l f && all_over p (drop header_bytes u) floor) ≡ (ltb p m && bears_by g d (stands m) l f)
        go true e = joined (leb floor (length u)) (all_over p (drop header_bytes u) floor) (bears_by g d floor l f) (bears_by g d (stands m) l f) (ltb p m) (read e) (bears_same e)
        go false e = rw (bears_none e floor, bears_none e (stands m)) (nothing (leb floor (length u)) (all_over p (drop header_bytes u) floor) (ltb p m))

-- ---- the positions before, each in turn
module _ (u : Bytes) (floor : ℕ) where
  each : (k j : ℕ) → list_all (λ q. is_over (descriptor_at u (stands q)) floor) (range_with_len j k) ≡ all_over k (drop (stands j) u) floor
  unfolding all_over
  each zero j = refl
  each (suc k) j = ap (λ (x : Bool). is_over (descriptor_at u (stands j)) floor && x) (each k (j + 1) ∙ ap (λ (r : Bytes). all_over k r floor) (sym (next_place u j)))

  pub over_is : (k : ℕ) → list_all (λ q. is_over (descriptor_at u (stands q)) floor) (range_with_len 0 k) ≡ all_over k (drop header_bytes u) floor
  unfolding stands
  over_is k = each k 0
