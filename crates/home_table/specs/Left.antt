-- The unit that no claim names is the one that the reader finds left over.
use Prim.Native.Nat.{ℕ, zero, suc, ◌+◌, ◌*◌, ◌-◌, ◌≤◌, ◌<◌}
use Rattle.std.proofs.Common.{arith, ◌∙◌, drop-drop}
use Rattle.std.proofs.Math.Nat.{eq_of_mul-eq-mul_right, zero-mul, zero-add}
use Rattle.std.specs.Prelude.{◌≡◌, Bool, List, [], ◌∷◌, eqb, length, drop}
use Rattle.std.proofs.Math.Path.{refl, sym, ap}
use Rattle.std.proofs.Math.Bool.{true, false, not, cond}
use borrow.Author.Tests.{eq-eqb, ne_eqb, eqb-true, eqb-false, ltb-true, ltb-false, lt-ltb, leb-true, leb-false, le-leb, lt-leb}
use Rattle.std.proofs.Math.Dec.{ltb, leb}
use Rattle.std.proofs.Math.ListN.{get_or}
use Rattle.rules.specs.Lists.{all, filter}
use Rattle.rules.specs.Flash.{Bytes}
use Rattle.rules.specs.Settled.{Physical, Home, physical, the_first, units_from, units_of, is_left}
use Rattle.rules.specs.declared.Geometry.{Geometry}
use Rattle.laws.specs.Spare.{taken}
use Rattle.unit.specs.Tests.{elim_inv, when}
use Rattle.home_table.specs.Units.{logical_of}
use Rattle.home_table.specs.Places.{places_of, is_at, left_from}
use Rattle.home_table.specs.Bridge.{standing, next_unit, place, housed, houses, houses_long}

module _ (g : Geometry) (s : Bytes) (h : 4 ≤ g.size) (small : g.units ≤ 64) where
  abbrev at : List ℕ
  at = places_of g.size g.units s

  same_base : (a b : ℕ) → eqb (a * g.size) (b * g.size) ≡ eqb a b
  same_base a b = go (eqb a b) refl
    where
      go : (x : Bool) → eqb a b ≡ x → eqb (a * g.size) (b * g.size) ≡ x
      go true e = eq-eqb (a * g.size) (b * g.size) (ap (λ (n : ℕ). n * g.size) (eqb-true a b e))
      go false e = ne_eqb (a * g.size) (b * g.size) (λ k. eqb-false a b e (eq_of_mul-eq-mul_right g.size (omega arith) a b k))

  -- u is the home of its own number, which is one of the k from L on
  within : ℕ → ℕ → ℕ → ℕ → Bool
  within k L l u = cond (leb L l) (cond (ltb l (L + k)) (eqb (get_or at l 0) u) false) false

  within_zero : (k l u : ℕ) → within k 0 l u ≡ cond (ltb l k) (eqb (get_or at l 0) u) false
  unfolding within
  within_zero k l u = rw (le-leb 0 l (omega arith), zero-add k)

  left_test : (k L u : ℕ) → L + k ≤ g.units - 1 → housed g.units at k L ≡ true
      → is_left (houses g s at k L) (standing g.size s u) ≡ not (within k L (logical_of g.size s u) u)
  unfolding is_left all houses housed physical within
  left_test zero L u l e = go (leb L (logical_of g.size s u)) (ltb (logical_of g.size s u) (L + 0)) refl refl
    where
      go : (x y : Bool) → leb L (logical_of g.size s u) ≡ x → ltb (logical_of g.size s u) (L + 0) ≡ y → true ≡ not (cond x (cond y (eqb (get_or at (logical_of g.size s u) 0) u) false) false)
      go true true p q = absurd (omega (arith, leb-true L (logical_of g.size s u) p, ltb-true (logical_of g.size s u) (L + 0) q))
      go true false p q = refl
      go false y p q = refl
  left_test (suc k) L u l e =
      let p = place g s h small L (omega arith) in
      let i = elim_inv (ltb (get_or at L 0) g.units) (housed g.units at k (L + 1)) e in
      let v : get_or at L 0 < g.units = ltb-true (get_or at L 0) g.units i.0 in
      ap (λ (x : Bool). when (not x) (is_left (houses g s at k (L + 1)) (standing g.size s u))) (same_base (get_or at L 0) u)
      ∙ go (logical_of g.size s u) (λ e. sym (ap (logical_of g.size s) e) ∙ p.number v) (left_test k (L + 1) u (omega arith) i.1) (eqb (get_or at L 0) u) refl
    where
      same : (m : ℕ) → (m ≡ L → ⊥) → (x y x' y' : Bool) → leb L m ≡ x → ltb m (L + suc k) ≡ y → leb (L + 1) m ≡ x' → ltb m (L + 1 + k) ≡ y'
          → not (cond x' (cond y' (eqb (get_or at m 0) u) false) false) ≡ not (cond x (cond y (eqb (get_or at m 0) u) false) false)
      same m n true true true true p q p' q' = refl
      same m n true true true false p q p' q' = absurd (omega (arith, ltb-true m (L + suc k) q, ltb-false m (L + 1 + k) q'))
      same m n true true false y' p q p' q' = absurd (n (omega (arith, leb-true L m p, leb-false (L + 1) m p')))
      same m n true false true true p q p' q' = absurd (omega (arith, ltb-false m (L + suc k) q, ltb-true m (L + 1 + k) q'))
      same m n true false true false p q p' q' = refl
      same m n true false false y' p q p' q' = refl
      same m n false y true y' p q p' q' = absurd (omega (arith, leb-false L m p, leb-true (L + 1) m p'))
      same m n false y false y' p q p' q' = refl

      go : (m : ℕ) → (get_or at L 0 ≡ u → m ≡ L)
          → is_left (houses g s at k (L + 1)) (standing g.size s u) ≡ not (within k (L + 1) m u)
          → (x : Bool) → eqb (get_or at L 0) u ≡ x
          → when (not x) (is_left (houses g s at k (L + 1)) (standing g.size s u)) ≡ not (within (suc k) L m u)
      go m n r true q =
          let e : m ≡ L = n (eqb-true (get_or at L 0) u q) in
          rw (e, le-leb L L (omega arith), lt-ltb L (L + suc k) (omega arith), q)
      go m n r false q = r ∙ other (eqb m L) refl
        where
          other : (x : Bool) → eqb m L ≡ x → not (within k (L + 1) m u) ≡ not (within (suc k) L m u)
          other true t =
              let e : m ≡ L = eqb-true m L t in
              rw (e, le-leb L L (omega arith), lt-ltb L (L + suc k) (omega arith), q, lt-leb (L + 1) L (omega arith))
          other false t = same m (eqb-false m L t) (leb L m) (ltb m (L + suc k)) (leb (L + 1) m) (ltb m (L + 1 + k)) refl refl refl refl

filter_yes : (f : Physical → Bool) (p : Physical) (ps : List Physical) → f p ≡ true → filter f (p ∷ ps) ≡ p ∷ filter f ps
unfolding filter
filter_yes f p ps e = rw e

filter_not : (f : Physical → Bool) (p : Physical) (ps : List Physical) → f p ≡ false → filter f (p ∷ ps) ≡ filter f ps
unfolding filter
filter_not f p ps e = rw e

first_is : (p : Physical) (ps : List Physical) → the_first (p ∷ ps) ≡ p
unfolding the_first
first_is p ps = refl

module _ (g : Geometry) (s : Bytes) (h : 4 ≤ g.size) (some : 1 ≤ g.units) (small : g.units ≤ 64)
    (all_housed : housed g.units (places_of g.size g.units s) (g.units - 1) 0 ≡ true) where
  abbrev spots : List ℕ
  spots = places_of g.size g.units s

  abbrev hs : List Home
  hs = houses g s spots (g.units - 1) 0

  abbrev rest : ℕ → ℕ → List Physical
  rest k u = units_from g k (u * g.size) (drop (u * g.size) s)

  left_at : (u : ℕ) → is_left hs (standing g.size s u) ≡ not (is_at (g.units - 1) spots (logical_of g.size s u) u)
  left_at u = left_test g s h small (g.units - 1) 0 u (omega arith) all_housed ∙ ap not whole_range
    where
      whole_range : within g s h small (g.units - 1) 0 (logical_of g.size s u) u ≡ cond (ltb (logical_of g.size s u) (g.units - 1)) (eqb (get_or spots (logical_of g.size s u) 0) u) false
      whole_range = within_zero g s h small (g.units - 1) (logical_of g.size s u) u

  rest_cons : (k u : ℕ) → rest (suc k) u ≡ standing g.size s u ∷ rest k (u + 1)
  unfolding units_from
  rest_cons k u = rw (drop-drop g.size (u * g.size) s, next_unit g s h u)

  -- the first that is nobody's home, or none is
  pub record FirstLeft (k u v : ℕ) : Type 0 where
    pub found : v < u + k → the_first (filter (is_left hs) (rest k u)) ≡ standing g.size s v
    pub none : u + k ≤ v → filter (is_left hs) (rest k u) ≡ []

  left_law : (k u : ℕ) → FirstLeft k u (left_from g.size s (g.units - 1) spots k u)
  unfolding left_from filter units_from
  left_law zero u = record { found = λ l. absurd (omega arith); none = λ l. refl }
  left_law (suc k) u = go (left_law k (u + 1)) (is_at (g.units - 1) spots (logical_of g.size s u) u) refl
    where
      go : FirstLeft k (u + 1) (left_from g.size s (g.units - 1) spots k (u + 1)) → (x : Bool) → is_at (g.units - 1) spots (logical_of g.size s u) u ≡ x
          → FirstLeft (suc k) u (elim x [ true ↦ left_from g.size s (g.units - 1) spots k (u + 1) | false ↦ u ])
      go r true e = record { found = λ l. ap the_first skip ∙ r.found (omega arith); none = λ l. skip ∙ r.none (omega arith) }
        where
          skip : filter (is_left hs) (rest (suc k) u) ≡ filter (is_left hs) (rest k (u + 1))
          skip = ap (filter (is_left hs)) (rest_cons k u) ∙ filter_not (is_left hs) (standing g.size s u) (rest k (u + 1)) (left_at u ∙ ap not e)
      go r false e = record { found = λ l. ap the_first take_it ∙ first_is (standing g.size s u) (filter (is_left hs) (rest k (u + 1))); none = λ l. absurd (omega arith) }
        where
          take_it : filter (is_left hs) (rest (suc k) u) ≡ standing g.size s u ∷ filter (is_left hs) (rest k (u + 1))
          take_it = ap (filter (is_left hs)) (rest_cons k u) ∙ filter_yes (is_left hs) (standing g.size s u) (rest k (u + 1)) (left_at u ∙ ap not e)

  pub left_below : left_from g.size s (g.units - 1) spots g.units 0 < g.units
  left_below = go (ltb (left_from g.size s (g.units - 1) spots g.units 0) g.units) refl
    where
      go : (x : Bool) → ltb (left_from g.size s (g.units - 1) spots g.units 0) g.units ≡ x → left_from g.size s (g.units - 1) spots g.units 0 < g.units
      go true e = ltb-true (left_from g.size s (g.units - 1) spots g.units 0) g.units e
      go false e =
          let z : length (filter (is_left hs) (rest g.units 0)) ≡ 0 = ap length ((left_law g.units 0).none (omega (arith, ltb-false (left_from g.size s (g.units - 1) spots g.units 0) g.units e))) in
          absurd (omega (arith, taken g (omega arith) g.units (0 * g.size) (drop (0 * g.size) s) hs, houses_long g s spots (g.units - 1) 0))

  pub left_unit : the_first (filter (is_left hs) (units_of g s)) ≡ standing g.size s (left_from g.size s (g.units - 1) spots g.units 0)
  unfolding units_of
  left_unit =
      let z : 0 * g.size ≡ 0 = zero-mul g.size in
      rw z at ((left_law g.units 0).found (omega (arith, left_below)))
