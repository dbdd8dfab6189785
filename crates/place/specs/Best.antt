-- The best of some homes, found from left to right, is the reader's: the one with the smallest gap, the one with the greatest; and the lowest one is the first.
use Rattle.std.specs.Prelude.{◌≡◌, Bool, cond, ltb, Some}
use Rattle.std.specs.List.{fold, reduce, slice_get}
use Rattle.std.proofs.Math.Path.{refl, sym, ap}
use Rattle.std.proofs.Common.{◌∙◌, map}
use Rattle.std.proofs.Math.Bool.{true, false}
use Rattle.std.proofs.Math.Option as math
use Rattle.std.proofs.Math.Option.{none, some}
use mathlib.Core.List.{List, [], ◌∷◌}
use Prim.Native.Nat.{ℕ, zero, suc, ◌≤◌}
use native.Mathlib.Omega.{arith}
use borrow.Author.Tests.{le-ltb}
use Rattle.std.specs.Cmp.{IsStrictWeakOrder}
use Rattle.std.proofs.lemmas.List.MinMax.{IsStrictWeakOrder-by_number, IsStrictWeakOrder-flip}
use Rattle.rules.specs.Lists.{filter, first}
use Rattle.rules.specs.Flash.{Bytes}
use Rattle.rules.specs.Settled.{Home}
use Rattle.rules.specs.Jobs.{fits, fitting, key, lesser, least, greater, greatest}
use Rattle.laws.specs.Lists.{Every, every_filter}
use Rattle.laws.specs.Places.{least_holds}
use Rattle.rules.specs.declared.Geometry.{Geometry}
use Rattle.rules.specs.declared.Rule.TheVariants.{Tightest, Lowest}
use Rattle.place.specs.Homes.{home_in, homes_at}
use Rattle.place.specs.Search.{fit_of, as_fit}
use Rattle.place.specs.declared.Fit.{Fit}

-- of two, the next one if it beats the first
abbrev pub better : (Fit → Fit → Bool) → Fit → Fit → Fit
better beats x y = cond (beats y x) y x

-- of three it does not matter which two are compared first
better_grouped : (beats : Fit → Fit → Bool) → IsStrictWeakOrder beats → (x y z : Fit) → better beats (better beats x y) z ≡ better beats x (better beats y z)
better_grouped beats order x y z = go (beats y x) (beats z y) refl refl
  where
    up : beats y x ≡ true → beats z y ≡ true → (b : Bool) → beats z x ≡ b → b ≡ true
    up p q true r = refl
    up p q false r = sym (order.chain z x y r (order.one_way y x p)) ∙ q

    go : (a b : Bool) → beats y x ≡ a → beats z y ≡ b → cond (beats z (cond a y x)) z (cond a y x) ≡ cond (beats (cond b z y) x) (cond b z y) x
    go true true p q = rw (q, up p q (beats z x) refl)
    go true false p q = rw (q, p)
    go false true p q = refl
    go false false p q = rw (p, order.chain z y x q p)

-- the reader's best of some homes, each held against the best of those behind it, is the best from left to right
module _ (beats : Fit → Fit → Bool) (order : IsStrictWeakOrder beats)
    (best : List Home → math.Option Home) (pick : Home → math.Option Home → Home) (nothing : best [] ≡ none) (more : (h : Home) (hs : List Home) → best (h ∷ hs) ≡ some (pick h (best hs)))
    (alone : (h : Home) → pick h none ≡ h) (beside : (h k : Home) → pick h (some k) ≡ cond (beats (fit_of k) (fit_of h)) k h) where
  of_two : (h k : Home) → fit_of (pick h (some k)) ≡ better beats (fit_of h) (fit_of k)
  of_two h k = ap fit_of (beside h k) ∙ go (beats (fit_of k) (fit_of h))
    where
      go : (b : Bool) → fit_of (cond b k h) ≡ cond b (fit_of k) (fit_of h)
      go true = refl
      go false = refl

  best_from : (h : Home) (hs : List Home) → fold (better beats) (fit_of h) (map fit_of hs) ≡ fit_of (pick h (best hs))
  best_from h [] = rw (nothing, alone)
  best_from h (k ∷ ks) =
      ap (λ (x : Fit). fold (better beats) x (map fit_of ks)) (sym (of_two h k)) ∙ best_from (pick h (some k)) ks ∙ go (best ks)
      ∙ ap (λ (o : math.Option Home). fit_of (pick h o)) (sym (more k ks))
    where
      go : (o : math.Option Home) → fit_of (pick (pick h (some k)) o) ≡ fit_of (pick h (some (pick k o)))
      go none = ap fit_of (alone (pick h (some k))) ∙ ap (λ (j : Home). fit_of (pick h (some j))) (sym (alone k))
      go (some m) =
          of_two (pick h (some k)) m ∙ ap (λ (x : Fit). better beats x (fit_of m)) (of_two h k) ∙ better_grouped beats order (fit_of h) (fit_of k) (fit_of m)
          ∙ ap (better beats (fit_of h)) (sym (of_two k m)) ∙ sym (of_two h (pick k (some m)))

  best_is : (hs : List Home) → reduce (better beats) (map fit_of hs) ≡ as_fit (best hs)
  unfolding as_fit
  best_is [] = rw nothing
  best_is (h ∷ hs) = rw more (ap Some (best_from h hs))

-- the gap of the one is smaller, and greater
abbrev pub is_tighter : Fit → Fit → Bool
is_tighter x y = ltb x.gap y.gap

abbrev pub is_wider : Fit → Fit → Bool
is_wider x y = ltb y.gap x.gap

pub tightest_is : (hs : List Home) → reduce (better is_tighter) (map fit_of hs) ≡ as_fit (least Tightest hs)
unfolding least lesser key fit_of
tightest_is = best_is is_tighter (IsStrictWeakOrder-by_number (λ (x : Fit). x.gap)) (least Tightest) (lesser Tightest) refl (λ h hs. refl) (λ h. refl) (λ h k. refl)

pub widest_is : (hs : List Home) → reduce (better is_wider) (map fit_of hs) ≡ as_fit (greatest hs)
unfolding greatest greater fit_of
widest_is = best_is is_wider (IsStrictWeakOrder-flip is_tighter (IsStrictWeakOrder-by_number (λ (x : Fit). x.gap))) greatest greater refl (λ h hs. refl) (λ h. refl) (λ h k. refl)

-- ---- the lowest number is the first
module _ (g : Geometry) (s : Bytes) (tab : List ℕ) where
  from_number_lem : (k L m : ℕ) → m ≤ L → Every (λ (h : Home). m ≤ h.number) (homes_at g s tab k L)
  unfolding homes_at home_in
  from_number_lem zero L m l = tt
  from_number_lem (suc k) L m l = (l, from_number_lem k (suc L) m (omega arith))

  head_least : (h : Home) (hs : List Home) → Every (λ (j : Home). h.number ≤ j.number) hs → least Lowest (h ∷ hs) ≡ some h
  unfolding least lesser key
  head_least h hs a = go (least Lowest hs) (least_holds (λ (j : Home). h.number ≤ j.number) Lowest hs a)
    where
      go : (o : math.Option Home) → ((j : Home) → o ≡ some j → h.number ≤ j.number) → some (lesser Lowest h o) ≡ some h
      go none f = refl
      go (some j) f = rw (le-ltb j.number h.number (f j refl))

  pub least_first : (e k L : ℕ) → least Lowest (fitting e (homes_at g s tab k L)) ≡ first (fitting e (homes_at g s tab k L))
  unfolding homes_at fitting filter
  least_first e zero L = unfold least first in refl
  least_first e (suc k) L = go (fits e (home_in g s tab L).room) refl (least_first e k (suc L))
    where
      go : (b : Bool) → fits e (home_in g s tab L).room ≡ b → least Lowest (fitting e (homes_at g s tab k (suc L))) ≡ first (fitting e (homes_at g s tab k (suc L)))
          → least Lowest (cond b (home_in g s tab L ∷ fitting e (homes_at g s tab k (suc L))) (fitting e (homes_at g s tab k (suc L))))
          ≡ first (cond b (home_in g s tab L ∷ fitting e (homes_at g s tab k (suc L))) (fitting e (homes_at g s tab k (suc L))))
      go true f p =
          head_least (home_in g s tab L) (fitting e (homes_at g s tab k (suc L)))
          (unfold home_in in every_filter (λ (h : Home). L ≤ h.number) (λ (h : Home). fits e h.room) (homes_at g s tab k (suc L)) (from_number_lem k (suc L) L (omega arith)))
          ∙ unfold first in refl
      go false f p = p

  pub lowest_is : (e k : ℕ) → slice_get (map fit_of (fitting e (homes_at g s tab k 0))) 0 ≡ as_fit (least Lowest (fitting e (homes_at g s tab k 0)))
  unfolding as_fit first
  lowest_is e k = head (fitting e (homes_at g s tab k 0)) ∙ ap as_fit (sym (least_first e k 0))
    where
      head : (hs : List Home) → slice_get (map fit_of hs) 0 ≡ as_fit (first hs)
      head [] = refl
      head (h ∷ hs) = refl
