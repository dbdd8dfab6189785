-- The units of an image one by one, and that one of them is nobody's home.
use Rattle.std.specs.Prelude.{◌≡◌, ◌≢◌, Bool, true, false, not, get_or, take, drop, eqb}
use Rattle.std.proofs.Math.Path.{refl, sym, subst, ap, ap₂}
use Rattle.std.proofs.Common.{◌∙◌, inl, inr, eqb-true, ne_eqb, eq-eqb, length-take, length-drop, drop-drop, ext_get_or}
use Rattle.std.proofs.Math.Bool.{cond}
use mathlib.Core.List.{List, [], ◌∷◌}
use Prim.Native.Nat.{ℕ, zero, suc, ◌+◌, ◌-◌, ◌*◌, ◌≤◌, ◌<◌}
use native.Mathlib.Omega.{arith}
use Rattle.std.proofs.Math.ListN.{length}
use Rattle.std.proofs.Math.Seq.{get_or-take, get_or-drop}
use Rattle.rules.specs.Lists.{all, filter}
use Rattle.rules.specs.Flash.{Bytes, word}
use Rattle.rules.specs.Settled.{Physical, Home, physical, the_first, units_from, units_of, homes_from, is_left, survey, is_in}
use Rattle.laws.specs.Words.{word_take, word_drop}
use Rattle.laws.specs.Lists.{Every, every_filter, filter_passes, Has, every_has}
use Rattle.laws.specs.Tests.{and_inv}
use Rattle.rules.specs.declared.Geometry.{Geometry}

-- ---- the units of an image
-- The j-th unit of an image.
unfoldable pub unit_at : Geometry → Bytes → ℕ → Physical
unit_at g s j = physical (j * g.size) (take g.size (drop (j * g.size) s))

-- A unit is one of the image's.
pub record UnitOf (g : Geometry) (s : Bytes) (p : Physical) : Type 0 where
  pub index : ℕ
  pub below : index < g.units
  pub exact : p ≡ unit_at g s index

module _ (g : Geometry) (s : Bytes) where
  next : (j : ℕ) → drop g.size (drop (j * g.size) s) ≡ drop (suc j * g.size) s
  next j = drop-drop g.size (j * g.size) s ∙ ap (λ (n : ℕ). drop n s) more
    where
      more : j * g.size + g.size ≡ suc j * g.size
      more = omega arith

  units_next : (k j : ℕ) → units_from g (suc k) (j * g.size) (drop (j * g.size) s) ≡ unit_at g s j ∷ units_from g k (suc j * g.size) (drop (suc j * g.size) s)
  unfolding units_from unit_at
  units_next k j =
      let more : j * g.size + g.size ≡ suc j * g.size = omega arith in
      rw (more, next j)

  units_are : (k j : ℕ) → j + k ≤ g.units → Every (UnitOf g s) (units_from g k (j * g.size) (drop (j * g.size) s))
  units_are zero j l = unfold units_from in tt
  units_are (suc k) j l = rw (units_next k j) (record { index = j; below = omega arith; exact = refl }, units_are k (suc j) (omega arith))

  units_have : (k j i : ℕ) → i < k → Has (unit_at g s (j + i)) (units_from g k (j * g.size) (drop (j * g.size) s))
  units_have zero j i l = absurd (omega arith)
  units_have (suc k) j zero l = rw (units_next k j) (inl (ap (unit_at g s) none))
    where
      none : j + 0 ≡ j
      none = omega arith
  units_have (suc k) j (suc i) l =
      let more : j + suc i ≡ suc j + i = omega arith in
      rw (units_next k j) (inr (subst (λ (n : ℕ). Has (unit_at g s n) (units_from g k (suc j * g.size) (drop (suc j * g.size) s))) (sym more) (units_have k (suc j) i (omega arith))))

  whole : units_of g s ≡ units_from g g.units (0 * g.size) (drop (0 * g.size) s)
  unfolding units_of
  whole = ap (λ (a : ℕ). units_from g g.units a (drop a s)) zero_base
    where
      zero_base : 0 ≡ 0 * g.size
      zero_base = omega arith

  -- Every unit is the j-th of the image for some j below U.
  pub every_unit : Every (UnitOf g s) (units_of g s)
  every_unit = rw whole (units_are g.units 0 (omega arith))

  -- And for each such j it is there.
  pub has_unit : (j : ℕ) → j < g.units → Has (unit_at g s j) (units_of g s)
  has_unit j l =
      let e : j ≡ 0 + j = omega arith in
      rw (whole, e) (units_have g.units 0 j l)

module _ (g : Geometry) (s : Bytes) (j : ℕ) where
  -- Its bytes, where they stand in the image.
  pub unit_byte : (i : ℕ) → i < g.size → get_or (unit_at g s j).bytes i 0 ≡ get_or s (j * g.size + i) 0
  unfolding unit_at physical
  unit_byte i h = get_or-take g.size (drop (j * g.size) s) i 0 h ∙ get_or-drop (j * g.size) s i 0

  -- Its words, where they stand in the image.
  pub unit_word : (a : ℕ) → a + 2 ≤ g.size → word (unit_at g s j).bytes a ≡ word s (j * g.size + a)
  unfolding unit_at physical
  unit_word a h = word_take g.size (drop (j * g.size) s) a h ∙ word_drop (j * g.size) s a

  -- It has S bytes.
  pub unit_length : j * g.size + g.size ≤ length s → length (unit_at g s j).bytes ≡ g.size
  unfolding unit_at physical
  unit_length h = simp (length-take, length-drop) (omega arith)

-- A unit's number and state, where they stand in the image.
pub in_is : (g : Geometry) (s : Bytes) (j L c : ℕ) → 4 ≤ g.size → is_in L c (unit_at g s j) ≡ true → word s (j * g.size) ≡ L
unfolding is_in unit_at physical
in_is g s j L c h e =
    let z : j * g.size + 0 ≡ j * g.size = omega arith in
    let k = and_inv (eqb (word (unit_at g s j).bytes 0) L) (eqb (word (unit_at g s j).bytes 2) c) e in
    rw z at (sym (unit_word g s j 0 (omega arith)) ∙ eqb-true (word (unit_at g s j).bytes 0) L k.0)

-- And the other way.
pub is_in_lem : (g : Geometry) (s : Bytes) (j L c : ℕ) → 4 ≤ g.size → word s (j * g.size) ≡ L → word s (j * g.size + 2) ≡ c → is_in L c (unit_at g s j) ≡ true
unfolding is_in unit_at physical
is_in_lem g s j L c h p q =
    let z : j * g.size + 0 ≡ j * g.size = omega arith in
    rw (eq-eqb (word (unit_at g s j).bytes 0) L (unit_word g s j 0 (omega arith) ∙ ap (word s) z ∙ p), eq-eqb (word (unit_at g s j).bytes 2) c (unit_word g s j 2 h ∙ q))

-- Where two images have the same bytes, they have the same unit.
pub unit_same : (g : Geometry) (s r : Bytes) (j : ℕ) → j * g.size + g.size ≤ length s → length r ≡ length s
    → ((i : ℕ) → j * g.size ≤ i → i < j * g.size + g.size → get_or r i 0 ≡ get_or s i 0) → unit_at g r j ≡ unit_at g s j
unit_same g s r j h l f = unfold unit_at in ap (physical (j * g.size)) (unfold physical unit_at in bytes)
  where
    same_length : length (unit_at g r j).bytes ≡ length (unit_at g s j).bytes
    same_length = unit_length g r j (omega arith) ∙ sym (unit_length g s j h)

    bytes : (unit_at g r j).bytes ≡ (unit_at g s j).bytes
    bytes =
        ext_get_or 0 (unit_at g r j).bytes (unit_at g s j).bytes same_length
        (λ i k.
        let m : i < g.size = omega (arith, unit_length g r j (omega arith)) in
        unit_byte g r j i m ∙ f (j * g.size + i) (omega arith) (omega arith) ∙ sym (unit_byte g s j i m))

-- ---- the remaining unit
-- What passes f and does not stand at b.
without : ℕ → (Physical → Bool) → Physical → Bool
without b f p = elim (not (eqb b p.base)) [ true ↦ f p | false ↦ false ]

module _ (g : Geometry) (some : 0 < g.size) (b : ℕ) (f : Physical → Bool) where
  elsewhere : (p : Physical) → b ≢ p.base → without b f p ≡ f p
  unfolding without
  elsewhere p n = rw (ne_eqb b p.base n, without)

  -- Units that stand above b lose nothing.
  none_lost : (k a : ℕ) (s : Bytes) → b < a → filter (without b f) (units_from g k a s) ≡ filter f (units_from g k a s)
  unfolding filter units_from
  none_lost zero a s l = refl
  none_lost (suc k) a s l =
      ap₂ (λ (c : Bool) (r : List Physical). cond c (physical a (take g.size s) ∷ r) r)
      (elsewhere (physical a (take g.size s)) (unfold physical in omega arith))
      (none_lost k (a + g.size) (drop g.size s) (omega arith))

  -- Of all units at most one stands at b.
  one_lost : (k a : ℕ) (s : Bytes) → length (filter f (units_from g k a s)) ≤ suc (length (filter (without b f) (units_from g k a s)))
  unfolding filter units_from without physical
  one_lost zero a s = omega arith
  one_lost (suc k) a s = go (eqb b a) refl (f p) (one_lost k (a + g.size) (drop g.size s))
    where
      p : Physical
      p = physical a (take g.size s)

      us : List Physical
      us = units_from g k (a + g.size) (drop g.size s)

      go : (t : Bool) → eqb b a ≡ t → (c : Bool) → length (filter f us) ≤ suc (length (filter (without b f) us))
          → length (cond c (p ∷ filter f us) (filter f us))
          ≤ suc (length (cond (elim (not t) as (λ j. Bool) [ true ↦ c | false ↦ false ]) (p ∷ filter (without b f) us) (filter (without b f) us)))
      go true e true h =
          let q : b ≡ a = eqb-true b a e in
          rw (none_lost k (a + g.size) (drop g.size s) (omega arith)) (omega arith)
      go true e false h = h
      go false e true h = omega arith
      go false e false h = h

module _ (g : Geometry) where
  -- k units are k.
  length_units : (k a : ℕ) (s : Bytes) → length (units_from g k a s) ≡ k
  unfolding units_from
  length_units zero a s = refl
  length_units (suc k) a s = ap suc (length_units k (a + g.size) (drop g.size s))

  -- The homes of k logical numbers are k.
  pub length_homes : (k L : ℕ) (ps : List Physical) → length (homes_from g k L ps) ≡ k
  unfolding homes_from
  length_homes zero L ps = refl
  length_homes (suc k) L ps = ap suc (length_homes k (suc L) ps)

module _ (g : Geometry) (some : 0 < g.size) where
  filter_left : (us : List Physical) → filter (is_left []) us ≡ us
  unfolding filter is_left all
  filter_left [] = refl
  filter_left (p ∷ us) = ap {B = List Physical} (λ r. p ∷ r) (filter_left us)

  -- Homes take at most as many units as they are.
  pub taken : (k a : ℕ) (s : Bytes) (hs : List Home) → k ≤ length hs + length (filter (is_left hs) (units_from g k a s))
  taken k a s [] = rw (filter_left (units_from g k a s)) (omega (arith, length_units g k a s))
  taken k a s (h ∷ hs) =
      let o : length (filter (is_left hs) (units_from g k a s)) ≤ suc (length (filter (is_left (h ∷ hs)) (units_from g k a s))) =
      unfold is_left all without in one_lost g some h.unit.base (is_left hs) k a s in
      omega (arith, taken k a s hs)

-- The first of some units is one of them.
pub first_has : (ps : List Physical) → 1 ≤ length ps → Has (the_first ps) ps
unfolding the_first
first_has [] h = absurd (omega arith)
first_has (p ∷ ps) h = inl refl

-- The remaining unit is a unit of the image, and nobody's home.
pub spare_unit : (g : Geometry) (s : Bytes) → 0 < g.size → 0 < g.units → UnitOf g s (survey g s).spare × (is_left (survey g s).homes (survey g s).spare ≡ true)
unfolding survey
spare_unit g s p q = (
  every_has (UnitOf g s) _ ls (every_filter (UnitOf g s) (is_left hs) (units_of g s) (every_unit g s)) found,
  every_has (λ (u : Physical). is_left hs u ≡ true) _ ls (filter_passes (is_left hs) (units_of g s)) found,
)
  where
    hs : List Home
    hs = homes_from g (g.units - 1) 0 (units_of g s)

    ls : List Physical
    ls = filter (is_left hs) (units_of g s)

    many : g.units ≤ length hs + length ls
    many = unfold units_of in taken g p g.units 0 s hs

    found : Has (the_first ls) ls
    found = first_has ls (omega (arith, many, length_homes g (g.units - 1) 0 (units_of g s)))
