-- Where an image's units and descriptors stand: units at multiples of their size, descriptors at even offsets, in every image.
use Rattle.std.specs.Prelude.{◌≡◌, refl, Bool, true, ◌||◌, length, drop, eqb}
use Rattle.std.proofs.Common.{◌∙◌, suc-mul, mul-le-mul_right, eqb-true, leb-true}
use mathlib.Core.List.{List, [], ◌∷◌}
use Prim.Native.Nat.{ℕ, zero, suc, ◌+◌, ◌-◌, ◌*◌, ◌%◌, ◌≤◌, ◌<◌}
use native.Mathlib.Omega.{arith}
use Rattle.rules.specs.Lists.{filter}
use Rattle.rules.specs.Flash.{Bytes, is_geometry}
use Rattle.rules.specs.Unit.{Descriptor, stands, live, retired}
use Rattle.rules.specs.Settled.{Physical, Home, Entry, physical, nowhere, the_first, units_from, units_of, is_in, homes_for, homes_from, entries_in, entries_of, survey, pick, select}
use Rattle.rules.specs.Sound.{no_home, home_at}
use Rattle.laws.specs.Tests.{and_inv, one}
use Rattle.laws.specs.Lists.{Every, every_append, every_filter, every_get}
use Rattle.rules.specs.declared.Geometry.{Geometry}

-- ---- a right geometry
-- S is a multiple of 8 from 512 to 4,096; U is from 3 to 64; the image is U x S bytes, at most 65,536.
pub record RightGeometry (g : Geometry) (s : Bytes) : Type 0 where
  pub large : 512 ≤ g.size
  pub small : g.size ≤ 4096
  pub eight : g.size % 8 ≡ 0
  pub some : 3 ≤ g.units
  pub few : g.units ≤ 64
  pub short : g.units * g.size ≤ 65536
  pub whole : length s ≡ g.units * g.size

record LegalSize (S : ℕ) : Type 0 where
  large : 512 ≤ S
  small : S ≤ 4096
  eight : S % 8 ≡ 0

sized_by : (S n : ℕ) → 512 ≤ n → n ≤ 4096 → n % 8 ≡ 0 → eqb S n ≡ true → LegalSize S
sized_by S n a b c e =
    let q : S ≡ n = eqb-true S n e in
    record { large = omega arith; small = omega arith; eight = rw q c }

sized : (S : ℕ) → eqb S 512 || eqb S 1024 || eqb S 2048 || eqb S 4096 ≡ true → LegalSize S
sized S e =
    one (eqb S 512 || eqb S 1024 || eqb S 2048) (eqb S 4096) e
    (λ a. one (eqb S 512 || eqb S 1024) (eqb S 2048) a
    (λ b. one (eqb S 512) (eqb S 1024) b (sized_by S 512 (omega arith) (omega arith) refl) (sized_by S 1024 (omega arith) (omega arith) refl))
    (sized_by S 2048 (omega arith) (omega arith) refl))
    (sized_by S 4096 (omega arith) (omega arith) refl)

-- A geometry that passes the test is one.
pub right_geometry : (g : Geometry) (s : Bytes) → is_geometry g (length s) ≡ true → RightGeometry g s
unfolding is_geometry
right_geometry g s e =
    let e₄ = and_inv _ _ e in
    let e₃ = and_inv _ _ e₄.0 in
    let e₂ = and_inv _ _ e₃.0 in
    let e₁ = and_inv _ _ e₂.0 in
    let z = sized g.size e₁.0 in
    record {
      large = z.large;
      small = z.small;
      eight = z.eight;
      some = leb-true 3 g.units e₁.1;
      few = leb-true g.units 64 e₂.1;
      short = leb-true (g.units * g.size) 65536 e₃.1;
      whole = eqb-true (length s) (g.units * g.size) e₄.1;
    }

-- Its units have an even size.
pub even_size_lem : {g : Geometry} {s : Bytes} → RightGeometry g s → g.size % 2 ≡ 0
even_size_lem o = omega (arith, o.eight)

-- It goes by the image's length alone.
pub right_long : {g : Geometry} {s t : Bytes} → length t ≡ length s → RightGeometry g s → RightGeometry g t
right_long e o = record { large = o.large; small = o.small; eight = o.eight; some = o.some; few = o.few; short = o.short; whole = e ∙ o.whole }

-- The units below n end by the end of the image.
pub row : (u n s : ℕ) → u < n → u * s + s ≤ n * s
row u n s h = omega (arith, suc-mul u s, mul-le-mul_right s h)

-- A multiple of an even number is even.
pub even_times : (k m : ℕ) → m % 2 ≡ 0 → k * m % 2 ≡ 0
even_times zero m h = omega arith
even_times (suc k) m h = omega (arith, even_times k m h)

-- What holds of all units holds of those that may be L's home.
pub homes_for_lem : (P : Physical → Type 0) (ps : List Physical) (L : ℕ) → Every P ps → Every P (homes_for ps L)
unfolding homes_for
homes_for_lem P ps L h = go (filter (is_in L live) ps) (every_filter P (is_in L live) ps h)
  where
    go : (qs : List Physical) → Every P qs → Every P (elim qs as (λ j. List Physical) [ [] ↦ filter (is_in L retired) ps | q ∷ qs ↦ q ∷ qs ])
    go [] k = every_filter P (is_in L retired) ps h
    go (q ∷ qs) k = k

-- ---- where units stand
-- The offset a is where one of the U units stands.
pub record Base (g : Geometry) (a : ℕ) : Type 0 where
  pub index : ℕ
  pub below : index < g.units
  pub exact : a ≡ index * g.size

-- That is an even offset.
pub base_even : (g : Geometry) {a : ℕ} → g.size % 2 ≡ 0 → Base g a → a % 2 ≡ 0
base_even g e b = rw b.exact (even_times b.index g.size e)

-- It lies whole among the U units.
pub base_inside : (g : Geometry) {a : ℕ} → Base g a → a + g.size ≤ g.units * g.size
base_inside g b = omega (arith, b.exact, mul-le-mul_right g.size b.below)

-- A descriptor stands at an even offset of its unit.
pub stands_even : (p : ℕ) → stands p % 2 ≡ 0
unfolding stands
stands_even p = omega arith

module _ (g : Geometry) where
  units_from_lem : (k j a : ℕ) (s : Bytes) → a ≡ j * g.size → j + k ≤ g.units → Every (λ (p : Physical). Base g p.base) (units_from g k a s)
  unfolding units_from physical
  units_from_lem zero j a s e l = tt
  units_from_lem (suc k) j a s e l =
      (record { index = j; below = omega arith; exact = e }, units_from_lem k (suc j) (a + g.size) (drop g.size s) (omega arith) (omega arith))

  -- Each unit of an image stands at a multiple of S.
  pub units_stand : (s : Bytes) → Every (λ (p : Physical). Base g p.base) (units_of g s)
  unfolding units_of
  units_stand s = units_from_lem g.units 0 0 s (omega arith) (omega arith)

  module _ (some : 0 < g.units) where
    nowhere_stands : Base g nowhere.base
    unfolding nowhere
    nowhere_stands = record { index = 0; below = some; exact = omega arith }

    first_stands : (ps : List Physical) → Every (λ (p : Physical). Base g p.base) ps → Base g (the_first ps).base
    unfolding the_first
    first_stands [] h = nowhere_stands
    first_stands (p ∷ ps) h = h.0

    homes_from_lem : (k L : ℕ) (ps : List Physical) → Every (λ (p : Physical). Base g p.base) ps
        → Every (λ (h : Home). Base g h.unit.base) (homes_from g k L ps)
    unfolding homes_from
    homes_from_lem zero L ps h = tt
    homes_from_lem (suc k) L ps h = (first_stands (homes_for ps L) (homes_for_lem (λ (p : Physical). Base g p.base) ps L h), homes_from_lem k (suc L) ps h)

    -- Each home of an image stands at a unit, whatever the image.
    pub homes_stand : (s : Bytes) → Every (λ (h : Home). Base g h.unit.base) (survey g s).homes
    unfolding survey
    homes_stand s = homes_from_lem (g.units - 1) 0 (units_of g s) (units_stand s)

    -- So does the home of any number, one that has none being at unit 0.
    pub home_stands : (s : Bytes) (L : ℕ) → Base g (home_at (survey g s).homes L).unit.base
    unfolding home_at no_home
    home_stands s L = every_get (λ (h : Home). Base g h.unit.base) no_home nowhere_stands (survey g s).homes (homes_stand s) L

    -- So does the remaining unit.
    pub spare_stands : (s : Bytes) → Base g (survey g s).spare.base
    unfolding survey
    spare_stands s = first_stands _ (every_filter _ _ (units_of g s) (units_stand s))

-- ---- where descriptors stand
-- An entry stands at an even offset of the image.
abbrev pub EvenPlace : Entry → Type 0
EvenPlace e = e.place % 2 ≡ 0

module _ (g : Geometry) (even : g.size % 2 ≡ 0) (some : 0 < g.units) where
  entries_in_lem : (L : ℕ) (p : Physical) (i : ℕ) (ds : List Descriptor) → Base g p.base → Every EvenPlace (entries_in L p i ds)
  unfolding entries_in
  entries_in_lem L p i [] b = tt
  entries_in_lem L p i (d ∷ ds) b = (omega (arith, base_even g even b, stands_even i), entries_in_lem L p (suc i) ds b)

  entries_of_lem : (hs : List Home) → Every (λ (h : Home). Base g h.unit.base) hs → Every EvenPlace (entries_of hs)
  unfolding entries_of
  entries_of_lem [] k = tt
  entries_of_lem (h ∷ hs) k =
      every_append EvenPlace (entries_in h.number h.unit 0 h.room.array) (entries_of hs)
      (entries_in_lem h.number h.unit 0 h.room.array k.0) (entries_of_lem hs k.1)

  -- Each entry of an image, whatever the image.
  pub entries_even : (s : Bytes) → Every EvenPlace (survey g s).entries
  unfolding survey
  entries_even s = entries_of_lem (survey g s).homes (homes_stand g some s)

  -- So do those that are chosen by their descriptors.
  pub select_even : (f : Descriptor → Bool) (s : Bytes) → Every EvenPlace (select f (survey g s))
  unfolding select pick
  select_even f s = every_filter EvenPlace _ (survey g s).entries (entries_even s)
