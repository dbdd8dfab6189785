-- The search over units and positions, one turn at a time.
use Rattle.std.specs.Prelude.{◌≡◌, Bool, cond, ◌&&◌, ◌||◌, ltb, leb, length, get_or, drop, Option, Some, None}
use Rattle.std.specs.List.{filter_map, range_with_len, slice_get}
use Rattle.std.proofs.Math.Path.{refl, sym, ap}
use Rattle.std.proofs.Common.{◌∙◌, true≢false}
use Rattle.std.proofs.Math.Bool.{true, false}
use mathlib.Core.List.{List, [], ◌∷◌}
use Prim.Native.Nat.{ℕ, zero, suc, ◌+◌, ◌-◌, ◌≤◌, ◌<◌}
use native.Mathlib.Omega.{arith}
use borrow.Author.Tests.{lt-ltb, ltb-true, ltb-false}
use Rattle.rules.specs.Unit.{Descriptor, blank, is_empty, stands, descriptor_bytes, header_bytes}
use Rattle.rules.specs.Jobs.{vacant}
use Rattle.laws.specs.Tests.{either}
use Rattle.unit.specs.declared.Room.{Room}
use Rattle.unit.specs.Shapes
use Rattle.unit.specs.Shapes.{table, array_of}
use Rattle.rules.specs.Flash.{Bytes}
use Rattle.rules.specs.Jobs.{fitting, least}
use Rattle.rules.specs.declared.Geometry.{Geometry}
use Rattle.rules.specs.declared.Rule.TheVariants.{Lowest}
use Rattle.place.specs.Homes.{WholeUnit, home_in, homes_at}
use Rattle.place.specs.Search.{fit_in, as_fit, told, told_at}
use Rattle.place.specs.Laws.{told_standing, standing_fits}
use Rattle.place.specs.Best.{lowest_is}
use Rattle.place.specs.declared.Fit.{Fit}

table_long : (n : ℕ) (r : Bytes) → length (table n r) ≡ n
unfolding table
table_long zero r = refl
table_long (suc n) r = ap suc (table_long n (drop 8 r))

pub array_long : (n : ℕ) (u : Bytes) → length (array_of n u) ≡ n
unfolding array_of
array_long n u = table_long n (drop header_bytes u)

-- ---- the lowest vacant position
vacant_le : (ds : List Descriptor) → vacant ds ≤ length ds
unfolding vacant
vacant_le [] = omega arith
vacant_le (d ∷ ds) = go (is_empty d) (vacant_le ds)
  where
    go : (b : Bool) → vacant ds ≤ length ds → (elim b as (λ (x : Bool). ℕ) [ true ↦ 0 | false ↦ suc (vacant ds) ]) ≤ suc (length ds)
    go true l = omega arith
    go false l = omega arith

-- it is empty, or there is none
vacant_blank : (ds : List Descriptor) → is_empty (get_or ds (vacant ds) blank) ≡ true
unfolding vacant
vacant_blank [] = unfold is_empty blank in refl
vacant_blank (d ∷ ds) = go (is_empty d) refl (vacant_blank ds)
  where
    go : (b : Bool) → is_empty d ≡ b → is_empty (get_or ds (vacant ds) blank) ≡ true → is_empty (get_or (d ∷ ds) (elim b as (λ (x : Bool). ℕ) [ true ↦ 0 | false ↦ suc (vacant ds) ]) blank) ≡ true
    go true e i = e
    go false e i = i

vacant_before : (ds : List Descriptor) (p : ℕ) → is_empty (get_or ds p blank) ≡ true → vacant ds ≤ p
unfolding vacant
vacant_before [] p h = omega arith
vacant_before (d ∷ ds) zero h = here (is_empty d) h
  where
    here : (b : Bool) → b ≡ true → (elim b as (λ (x : Bool). ℕ) [ true ↦ 0 | false ↦ suc (vacant ds) ]) ≤ 0
    here true e = omega arith
    here false e = absurd (true≢false (sym e))
vacant_before (d ∷ ds) (suc p) h = go (is_empty d) (vacant_before ds p h)
  where
    go : (b : Bool) → vacant ds ≤ p → (elim b as (λ (x : Bool). ℕ) [ true ↦ 0 | false ↦ suc (vacant ds) ]) ≤ suc p
    go true l = omega arith
    go false l = omega arith

-- ---- the positions of one unit
module _ (number e : ℕ) (r : Room) (ds : List Descriptor) (long : length ds ≡ r.n) where
  -- nothing fits before p
  abbrev pub Passed : ℕ → Type 0
  Passed p = (q : ℕ) → q < p → told_at number r ds q e ≡ None

  told_here : told_at number r ds (vacant ds) e ≡ told number r (vacant ds) e
  unfolding told_at
  told_here = rw (vacant_blank ds)

  -- nothing fits at any
  pub passed_all : Passed (r.n + 1) → told number r (vacant ds) e ≡ None
  passed_all h = sym told_here ∙ h (vacant ds) (omega (arith, vacant_le ds, long))

  -- what fits first stands at the lowest vacant one
  pub passed_to : (p : ℕ) (f : Fit) → p ≤ r.n → Passed p → told_at number r ds p e ≡ Some f → told number r (vacant ds) e ≡ Some f
  unfolding told_at
  passed_to p f l h t = go (is_empty (get_or ds p blank)) refl t
    where
      x : ℕ
      x = r.low - stands r.n

      later : vacant ds < p → told number r p e ≡ Some f → told number r (vacant ds) e ≡ Some f
      later m q =
          let v : ltb (vacant ds) r.n ≡ true = lt-ltb (vacant ds) r.n (omega arith) in
          let none : told number r (vacant ds) e ≡ None = sym told_here ∙ h (vacant ds) m in
          split (leb e x) (leb (e + descriptor_bytes) x) (ltb p r.n) (rw v at none) q
        where
          split : (b c w : Bool) → cond {A = Option Fit} (b || c) (Some (record { at = record { unit = number; position = vacant ds }; gap = x })) None ≡ None
              → cond {A = Option Fit} ((w && b) || c) (Some (record { at = record { unit = number; position = p }; gap = x })) None ≡ Some f → told number r (vacant ds) e ≡ Some f
          split true c w i j = cc
          split false true w i j = cc
          split false false true i j = cc
          split false false false i j = cc

      go : (b : Bool) → is_empty (get_or ds p blank) ≡ b → cond {A = Option Fit} b (told number r p e) None ≡ Some f → told number r (vacant ds) e ≡ Some f
      go false i q = cc
      go true i q =
          either (ltb (vacant ds) p) (λ m. later (ltb-true (vacant ds) p m) q)
          (λ m. let s : vacant ds ≡ p = omega (arith, vacant_before ds p i, ltb-false (vacant ds) p m) in
          rw s q)

-- of a lent unit
module _ (g : Geometry) (s : Bytes) (tab : List ℕ) (L e : ℕ) (u : Bytes) (w : WholeUnit g u) (same : u ≡ (home_in g s tab L).unit.bytes) (r : Room) (was : r ≡ Shapes.room_of (length u) u) where
  pub unit_passed : Passed L e r (array_of r.n u) (array_long r.n u) (r.n + 1) → fit_in e (home_in g s tab L) ≡ None
  unit_passed h = sym (told_standing g s tab L e u w same r was (vacant (array_of r.n u)) refl) ∙ passed_all L e r (array_of r.n u) (array_long r.n u) h

  pub unit_found : (p : ℕ) (f : Fit) → p ≤ r.n → Passed L e r (array_of r.n u) (array_long r.n u) p → told_at L r (array_of r.n u) p e ≡ Some f → fit_in e (home_in g s tab L) ≡ Some f
  unit_found p f l h t = sym (told_standing g s tab L e u w same r was (vacant (array_of r.n u)) refl) ∙ passed_to L e r (array_of r.n u) (array_long r.n u) p f l h t

-- ---- the units
module _ (g : Geometry) (s : Bytes) (tab : List ℕ) (e : ℕ) where
  -- the first that fits of the k units from L on
  abbrev pub sought : ℕ → ℕ → Option Fit
  sought k L = slice_get (filter_map (λ (i : ℕ). fit_in e (home_in g s tab i)) (range_with_len L k)) 0

  abbrev found : ℕ → Option Fit
  found k = as_fit (least Lowest (fitting e (homes_at g s tab k 0)))

  sought_all : (k : ℕ) → sought k 0 ≡ found k
  sought_all k = ap (λ (fs : List Fit). slice_get fs 0) (standing_fits g s tab e k) ∙ lowest_is g s tab e k

  module _ (k L : ℕ) where
    pub sought_later : L < k → fit_in e (home_in g s tab L) ≡ None → sought (k - L) L ≡ sought (k - (L + 1)) (L + 1)
    sought_later l h =
        let m : k - L ≡ suc (k - (L + 1)) = omega arith in
        rw (m, h)

    pub sought_here : (f : Fit) → L < k → fit_in e (home_in g s tab L) ≡ Some f → sought (k - L) L ≡ sought k 0 → Some f ≡ found k
    sought_here f l h i =
        let m : k - L ≡ suc (k - (L + 1)) = omega arith in
        let t : sought (k - L) L ≡ Some f = rw (m, h) in
        sym t ∙ i ∙ sought_all k

    pub sought_nowhere : k ≤ L → sought (k - L) L ≡ sought k 0 → None ≡ found k
    sought_nowhere l i =
        let m : k - L ≡ 0 = omega arith in
        let t : sought (k - L) L ≡ None = rw m in
        sym t ∙ i ∙ sought_all k
