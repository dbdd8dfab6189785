-- The homes of an image by their logical numbers, and what a settled image is.
use Rattle.std.specs.Prelude.{◌≡◌, Bool, cond, ◌&&◌, ◌||◌, List, [], ◌∷◌, get_or}
use Rattle.std.proofs.Math.Path.{refl, ap}
use Rattle.std.proofs.Common.{sym, ◌∙◌, true≢false, add-zero, zero-add, eqb-true}
use Rattle.std.proofs.Math.Bool.{true, false}
use Prim.Native.Nat.{ℕ, zero, suc, ◌+◌, ◌-◌, ◌≤◌, ◌<◌}
use native.Mathlib.Omega.{arith}
use Rattle.std.proofs.Math.ListN.{length}
use Rattle.std.proofs.Math.Dec.{eqb}
use Rattle.rules.specs.Lists.{all, filter}
use Rattle.rules.specs.Flash.{Bytes}
use Rattle.rules.specs.Unit.{room_of, is_home, live, retired, file_of}
use Rattle.rules.specs.Settled.{Physical, Home, Entry, Survey, Counts, the_first, units_of, homes_for, one_each, homes_from, survey, counts, is_quiet, has_header, is_housed, is_still, is_live, is_spare, is_in, of_file, pairs}
use Rattle.rules.specs.Sound.{no_home, home_at, is_unfinished, is_committing, is_moving, standing}
use Rattle.laws.specs.Tests.{and_inv, clash}
use Rattle.laws.specs.Lists.{Every, Has}
use Rattle.rules.specs.declared.Geometry.{Geometry}
use Rattle.rules.specs.declared.Standing.{Standing}
use Rattle.rules.specs.declared.Standing.TheVariants.{Settled, Sound, Neither}

-- L's home among the units ps.
unfoldable pub home_of : Geometry → List Physical → ℕ → Home
home_of g ps L = let p = the_first (homes_for ps L) in record { number = L; unit = p; room = room_of g p.bytes }

module _ (g : Geometry) (ps : List Physical) where
  -- The homes are those of the k logical numbers from L on, in order.
  pub home_from : (k L i : ℕ) → i < k → get_or (homes_from g k L ps) i no_home ≡ home_of g ps (L + i)
  unfolding homes_from home_of
  home_from zero L i h = absurd (omega arith)
  home_from (suc k) L zero h = ap (home_of g ps) (sym (add-zero L))
  home_from (suc k) L (suc i) h = home_from k (suc L) i (omega arith) ∙ ap (home_of g ps) more
    where
      more : suc L + i ≡ L + suc i
      more = omega arith

  -- What holds of each number's home holds of every home.
  pub every_home : (P : Home → Type 0) (k L : ℕ) → ((i : ℕ) → L ≤ i → i < L + k → P (home_of g ps i)) → Every P (homes_from g k L ps)
  unfolding homes_from home_of
  every_home P zero L f = tt
  every_home P (suc k) L f = (f L (omega arith) (omega arith), every_home P k (suc L) (λ i a b. f i (omega arith) (omega arith)))

  -- And the other way.
  pub home_every : (P : Home → Type 0) (k L i : ℕ) → Every P (homes_from g k L ps) → i < k → P (home_of g ps (L + i))
  unfolding homes_from home_of
  home_every P zero L i h l = absurd (omega arith)
  home_every P (suc k) L zero h l = rw (add-zero L) h.0
  home_every P (suc k) L (suc i) h l =
      let more : L + suc i ≡ suc L + i = omega arith in
      rw more (home_every P k (suc L) i h.1 (omega arith))

  -- Where each number is on exactly one unit, so is L + i.
  pub one_home : (k L i : ℕ) → one_each k L ps ≡ true → i < k → length (homes_for ps (L + i)) ≡ 1
  unfolding one_each
  one_home zero L i e h = absurd (omega arith)
  one_home (suc k) L i e h = go (eqb (length (homes_for ps L)) 1) refl e i h (λ q j l. one_home k (suc L) j q l)
    where
      go : (b : Bool) → eqb (length (homes_for ps L)) 1 ≡ b → (elim b as (λ j. Bool) [ true ↦ one_each k (suc L) ps | false ↦ false ]) ≡ true
          → (i : ℕ) → i < suc k → (one_each k (suc L) ps ≡ true → (j : ℕ) → j < k → length (homes_for ps (suc L + j)) ≡ 1)
          → length (homes_for ps (L + i)) ≡ 1
      go true t q zero l f = rw (add-zero L) (eqb-true (length (homes_for ps L)) 1 t)
      go true t q (suc i) l f =
          let more : L + suc i ≡ suc L + i = omega arith in
          rw more (f q i (omega arith))
      go false t q i l f = absurd (true≢false (sym q))

-- Where a unit is live with L's number, L's home is one of those.
pub homes_live : (ps : List Physical) (L : ℕ) (p : Physical) → Has p (filter (is_in L live) ps) → homes_for ps L ≡ filter (is_in L live) ps
unfolding homes_for
homes_live ps L p h = go (filter (is_in L live) ps) h
  where
    go : (qs : List Physical) → Has p qs → (elim qs as (λ j. List Physical) [ [] ↦ filter (is_in L retired) ps | q ∷ qs ↦ q ∷ qs ]) ≡ qs
    go [] k = absurd k
    go (q ∷ qs) k = refl

-- ---- the homes of an image
module _ (g : Geometry) (s : Bytes) where
  -- A home of an image is that of its number.
  pub home_at_lem : (L : ℕ) → L < g.units - 1 → home_at (survey g s).homes L ≡ home_of g (units_of g s) L
  unfolding home_at survey
  home_at_lem L h = home_from g (units_of g s) (g.units - 1) 0 L h ∙ ap (home_of g (units_of g s)) (zero-add L)

-- ---- a housed image
-- Each number has one home, each home's header is a settled one's, and each home is as it must be.
pub record HousedParts (g : Geometry) (v : Survey) : Type 0 where
  pub one : one_each (g.units - 1) 0 v.units ≡ true
  pub headers : all has_header v.homes ≡ true
  pub homes : all (λ (h : Home). is_home g h.unit.bytes h.room) v.homes ≡ true

-- A housed image, part by part.
pub housed_parts : (g : Geometry) (v : Survey) → is_housed g v ≡ true → HousedParts g v
unfolding is_housed
housed_parts g v e =
    let h = and_inv (one_each (g.units - 1) 0 v.units && all has_header v.homes) (all (λ (h : Home). is_home g h.unit.bytes h.room) v.homes) e in
    let k = and_inv (one_each (g.units - 1) 0 v.units) (all has_header v.homes) h.0 in
    record { one = k.0; headers = k.1; homes = h.1 }

-- An image that stands somewhere is housed.
pub sound_housed : (g : Geometry) (v : Survey) → (standing g v ≡ Neither → ⊥) → is_housed g v ≡ true
unfolding standing
sound_housed g v n = go (is_housed g v) refl
  where
    go : (b : Bool) → is_housed g v ≡ b → b ≡ true
    go true q = refl
    go false q = absurd (n (rw (q, standing)))

-- ---- a settled image
-- Each number has one home as it must be, with its header, every home is live and the remaining unit a spare, and the counts are those of a settled image.
pub record SettledParts (g : Geometry) (v : Survey) : Type 0 where
  pub one : one_each (g.units - 1) 0 v.units ≡ true
  pub headers : all has_header v.homes ≡ true
  pub homes : all (λ (h : Home). is_home g h.unit.bytes h.room) v.homes ≡ true
  pub live : all is_live v.homes ≡ true
  pub spare : is_spare v.spare.bytes ≡ true
  pub quiet : is_quiet (counts v.entries) ≡ true

-- Sound and neither are not settled.
pub unsettled : {A : Type 0} (d : Bool) → cond d Sound Neither ≡ Settled → A
unsettled true e = clash (cc)
unsettled false e = clash (cc)

-- A settled image, part by part.
pub settled_parts : (g : Geometry) (v : Survey) → standing g v ≡ Settled → SettledParts g v
unfolding standing is_still
settled_parts g v e =
    go (is_housed g v) (is_still v) (is_quiet c) ((is_still v && (is_unfinished c || is_committing c)) || (is_quiet c && is_moving g v.homes v.spare)) refl refl refl e
  where
    c : Counts
    c = counts v.entries

    go : (a b q d : Bool) → is_housed g v ≡ a → is_still v ≡ b → is_quiet c ≡ q
        → (elim a as (λ j. Standing) [
          | false ↦ Neither
          | true ↦ elim (b && q) as (λ j. Standing) [ true ↦ Settled | false ↦ cond d Sound Neither ]
        ]) ≡ Settled
        → SettledParts g v
    go true true true d x y z e =
        let h = housed_parts g v x in
        let k = and_inv (all is_live v.homes) (is_spare v.spare.bytes) y in
        record { one = h.one; headers = h.headers; homes = h.homes; live = k.0; spare = k.1; quiet = z }
    go true true false d x y z e = unsettled d e
    go true false q d x y z e = unsettled d e
    go false b q d x y z e = unsettled false e

-- Where no two entries are of one file, a file has at most one.
pub pairs_few : (f : ℕ) (es : List Entry) → pairs es ≡ 0 → length (filter (of_file f) es) ≤ 1
unfolding filter of_file pairs
pairs_few f [] h = omega arith
pairs_few f (e ∷ es) h = go (eqb (file_of e.descriptor) f) refl (pairs_few f es (omega (arith, h)))
  where
    go : (b : Bool) → eqb (file_of e.descriptor) f ≡ b → length (filter (of_file f) es) ≤ 1 → length (cond b (e ∷ filter (of_file f) es) (filter (of_file f) es)) ≤ 1
    go true q k = omega (arith, h, ap (λ (x : ℕ). length (filter (of_file x) es)) (eqb-true (file_of e.descriptor) f q))
    go false q k = k
