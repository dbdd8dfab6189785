-- Sectors that lie between two bounds and do not overlap are together no larger than what is between.
use Rattle.std.specs.Prelude.{Bool, ◌&&◌, ◌||◌, cond, ◌≡◌, ◌%◌, ◌+◌, ◌<◌, ◌≤◌, suc, zero, ℕ, eqb, leb, length}
use Rattle.std.proofs.Math.Bool.{false, not, true}
use mathlib.Core.List.{List, [], ◌∷◌}
use Rattle.std.proofs.Common.{◌∙◌, ap, sym, le_of_suc-le-suc, not-suc-le-zero, arith}
use Rattle.std.proofs.Math.Path.{refl}
use Rattle.std.proofs.Math.Decide.{dec_lt}
use Rattle.rules.specs.Lists.{all, filter}
use Rattle.rules.specs.Unit.{Descriptor, all_apart, apart, disjoint, has_sector, is_placed, is_tagged, lies, size}
use Rattle.rules.specs.declared.Geometry.{Geometry}
use Rattle.theory.specs.Base.Facts.{all_cons, all_uncons, and_l, and_r, differ, eq_of, filter_halves, le_of, true_false}

-- its sector, if it has one that is not empty
abbrev pub takes : Descriptor → ℕ
takes d = cond (has_sector d) (size d) 0

abbrev pub taken_by : List Descriptor → ℕ
taken_by [] = 0
taken_by (d ∷ ds) = takes d + taken_by ds

-- between a and b
abbrev Between : ℕ → ℕ → Descriptor → Type 0
Between a b d = 0 < takes d → (a ≤ d.offset) × (d.offset + takes d ≤ b)

abbrev AllBetween : ℕ → ℕ → List Descriptor → Type 0
AllBetween a b [] = Unit {0}
AllBetween a b (d ∷ ds) = Between a b d × AllBetween a b ds

-- x lies wholly below d
abbrev below' : Descriptor → Descriptor → Bool
below' d x = leb (x.offset + takes x) d.offset

-- of two that are apart: one is empty, or it lies below or above
apart_cases : (d x : Descriptor) → apart d x ≡ true → 0 < takes d → 0 < takes x → below' d x ≡ false → d.offset + takes d ≤ x.offset
unfolding disjoint apart
apart_cases d x h p q n = go (has_sector d) (has_sector x) refl refl h p q n
  where
    pick : (u v c e : Bool) → u || v || c || e ≡ true → u ≡ false → v ≡ false → e ≡ false → c ≡ true
    pick true v c e h p q n = true_false true refl p
    pick false true c e h p q n = true_false true refl q
    pick false false true e h p q n = refl
    pick false false false e h p q n = true_false e h n

    pos : (n : ℕ) → 0 < n → eqb n 0 ≡ false
    pos n l = differ (λ (e : n ≡ 0). let z : ⊥ = omega arith in z)

    go : (s t : Bool) → has_sector d ≡ s → has_sector x ≡ t → not s || not t || disjoint d x ≡ true → 0 < cond s (size d) 0 → 0 < cond t (size x) 0
        → leb (x.offset + cond t (size x) 0) d.offset ≡ false → d.offset + cond s (size d) 0 ≤ x.offset
    go false t u v h p q n = absurd (let z : ⊥ = omega arith in z)
    go true false u v h p q n = absurd (let z : ⊥ = omega arith in z)
    go true true u v h p q n = le_of (d.offset + size d) x.offset (pick (eqb (size d) 0) (eqb (size x) 0) (leb (d.offset + size d) x.offset) (leb (x.offset + size x) d.offset) h (pos (size d) p) (pos (size x) q) n)

-- the first of a list, and the rest
pub apart_uncons : (x : Descriptor) (xs : List Descriptor) → all_apart (x ∷ xs) ≡ true → (all (apart x) xs ≡ true) × (all_apart xs ≡ true)
unfolding all_apart
apart_uncons x xs h = go (all (apart x) xs) h
  where
    go : (b : Bool) → (elim b as (λ j. Bool) [ true ↦ all_apart xs | false ↦ false ]) ≡ true → (b ≡ true) × (all_apart xs ≡ true)
    go true q = (refl, q)
    go false q = true_false false q refl

-- those of a list that pass
filter_apart : (f : Descriptor → Bool) (ds : List Descriptor) → all_apart ds ≡ true → all_apart (filter f ds) ≡ true
unfolding all_apart filter all
filter_apart f [] h = refl
filter_apart f (d ∷ ds) h = go (f d) (filter_apart f ds (apart_uncons d ds h).1)
  where
    parts : (all (apart d) ds ≡ true) × (all_apart ds ≡ true)
    parts = apart_uncons d ds h

    kept : (xs : List Descriptor) → all (apart d) xs ≡ true → all (apart d) (filter f xs) ≡ true
    kept [] k = refl
    kept (x ∷ xs) k = each (f x) (kept xs (all_uncons (apart d) x xs k).1)
      where
        each : (b : Bool) → all (apart d) (filter f xs) ≡ true → all (apart d) (cond b (x ∷ filter f xs) (filter f xs)) ≡ true
        each true r = all_cons (apart d) x (filter f xs) (all_uncons (apart d) x xs k).0 r
        each false r = r

    go : (b : Bool) → all_apart (filter f ds) ≡ true → all_apart (cond b (d ∷ filter f ds) (filter f ds)) ≡ true
    go true r = ap (λ (b : Bool). elim b as (λ j. Bool) [ true ↦ all_apart (filter f ds) | false ↦ false ]) (kept ds parts.0) ∙ r
    go false r = r

taken_halves : (f : Descriptor → Bool) (ds : List Descriptor) → taken_by (filter f ds) + taken_by (filter (λ (x : Descriptor). not (f x)) ds) ≡ taken_by ds
unfolding filter
taken_halves f [] = refl
taken_halves f (d ∷ ds) = go (f d) (taken_halves f ds)
  where
    go : (b : Bool) → taken_by (filter f ds) + taken_by (filter (λ (x : Descriptor). not (f x)) ds) ≡ taken_by ds
        → taken_by (cond b (d ∷ filter f ds) (filter f ds)) + taken_by (cond (not b) (d ∷ filter (λ (x : Descriptor). not (f x)) ds) (filter (λ (x : Descriptor). not (f x)) ds)) ≡ takes d + taken_by ds
    go true h = omega (arith, h)
    go false h = omega (arith, h)

filter_short : (f : Descriptor → Bool) (ds : List Descriptor) → length (filter f ds) ≤ length ds
filter_short f ds = omega (arith, filter_halves f ds)

-- the parts below and above d
module _ (d : Descriptor) (a b : ℕ) (some' : 0 < takes d) where
  lower_part : (ds : List Descriptor) → AllBetween a b ds → AllBetween a d.offset (filter (below' d) ds)
  unfolding filter
  lower_part [] h = tt
  lower_part (x ∷ xs) h = go (below' d x) refl (lower_part xs h.1)
    where
      go : (c : Bool) → below' d x ≡ c → AllBetween a d.offset (filter (below' d) xs) → AllBetween a d.offset (cond c (x ∷ filter (below' d) xs) (filter (below' d) xs))
      go true q r = ((λ z. ((h.0 z).0, le_of (x.offset + takes x) d.offset q)), r)
      go false q r = r

  upper_part : (ds : List Descriptor) → all (apart d) ds ≡ true → AllBetween a b ds → AllBetween (d.offset + takes d) b (filter (λ (x : Descriptor). not (below' d x)) ds)
  unfolding filter
  upper_part [] p h = tt
  upper_part (x ∷ xs) p h = go (below' d x) refl (upper_part xs (all_uncons (apart d) x xs p).1 h.1)
    where
      go : (c : Bool) → below' d x ≡ c → AllBetween (d.offset + takes d) b (filter (λ (x : Descriptor). not (below' d x)) xs)
          → AllBetween (d.offset + takes d) b (cond (not c) (x ∷ filter (λ (x : Descriptor). not (below' d x)) xs) (filter (λ (x : Descriptor). not (below' d x)) xs))
      go true q r = r
      go false q r = ((λ z. (apart_cases d x (all_uncons (apart d) x xs p).0 some' z q, (h.0 z).1)), r)

fits_in : (n : ℕ) (ds : List Descriptor) (a b : ℕ) → length ds ≤ n → a ≤ b → all_apart ds ≡ true → AllBetween a b ds → a + taken_by ds ≤ b
unfolding all_apart
fits_in zero [] a b l m h k = omega arith
fits_in zero (d ∷ ds) a b l m h k = absurd (not-suc-le-zero l)
fits_in (suc n) [] a b l m h k = omega arith
fits_in (suc n) (d ∷ ds) a b l m h k =
    go (dec_lt 0 (takes d)) (fits_in n ds a b (le_of_suc-le-suc l) m parts.1 k.1)
    (λ xs x y z w. fits_in n (filter xs ds) x y (omega (arith, filter_short xs ds)) z (filter_apart xs ds parts.1) w)
  where
    parts : (all (apart d) ds ≡ true) × (all_apart ds ≡ true)
    parts = apart_uncons d ds h

    go : Dec (0 < takes d) → a + taken_by ds ≤ b → ((f : Descriptor → Bool) (x y : ℕ) → x ≤ y → AllBetween x y (filter f ds) → x + taken_by (filter f ds) ≤ y) → a + (takes d + taken_by ds) ≤ b
    go (no z) r f = omega (arith, r, z)
    go (yes z) r f =
        omega (
          arith,
          taken_halves (below' d) ds,
          f (below' d) a d.offset (k.0 z).0 (lower_part d a b z ds k.1),
          f (λ (x : Descriptor). not (below' d x)) (d.offset + takes d) b (k.0 z).1 (upper_part d a b z ds parts.0 k.1),
        )

-- ---- of a home
-- what lies tells
pub record Lying (g : Geometry) (floor : ℕ) (d : Descriptor) : Type 0 where
  pub even : d.offset % 2 ≡ 0
  pub above : floor ≤ d.offset
  pub inside : d.offset + size d ≤ g.size
  pub tagged : is_tagged d ≡ true

pub lying : (g : Geometry) (floor : ℕ) (d : Descriptor) → is_placed g floor d ≡ true → has_sector d ≡ true → Lying g floor d
unfolding is_placed lies
lying g floor d h s =
    record {
      even = eq_of (d.offset % 2) 0 (and_l A B (and_l (A && B) C (and_l (A && B && C) (is_tagged d) k)));
      above = le_of floor d.offset (and_r A B (and_l (A && B) C (and_l (A && B && C) (is_tagged d) k)));
      inside = le_of (d.offset + size d) g.size (and_r (A && B) C (and_l (A && B && C) (is_tagged d) k));
      tagged = and_r (A && B && C) (is_tagged d) k;
    }
  where
    A : Bool
    A = eqb (d.offset % 2) 0

    B : Bool
    B = leb floor d.offset

    C : Bool
    C = leb (d.offset + size d) g.size

    k : A && B && C && is_tagged d ≡ true
    k = sym (ap (λ (b : Bool). not b || lies g floor d) s) ∙ h

all_between : (g : Geometry) (floor : ℕ) (ds : List Descriptor) → all (is_placed g floor) ds ≡ true → AllBetween floor g.size ds
all_between g floor [] h = tt
all_between g floor (d ∷ ds) h = (go (has_sector d) refl, all_between g floor ds (all_uncons (is_placed g floor) d ds h).1)
  where
    go : (b : Bool) → has_sector d ≡ b → 0 < cond b (size d) 0 → (floor ≤ d.offset) × (d.offset + cond b (size d) 0 ≤ g.size)
    go false e z = absurd (let w : ⊥ = omega arith in w)
    go true e z = let k = lying g floor d (all_uncons (is_placed g floor) d ds h).0 e in (k.above, k.inside)

pub sectors_fit : (g : Geometry) (floor : ℕ) (ds : List Descriptor) → floor ≤ g.size → all (is_placed g floor) ds ≡ true → all_apart ds ≡ true → floor + taken_by ds ≤ g.size
sectors_fit g floor ds l h k = fits_in (length ds) ds floor g.size (omega arith) l k (all_between g floor ds h)
