-- The entries of an image by their handles: each stands in the home of its unit, at its position.
use Rattle.std.proofs.Math.Path.{◌≡◌, refl, ap}
use Rattle.std.proofs.Common.{sym, ◌∙◌, subst, add-zero, zero-add, le_of_suc-le-suc, not-suc-le-zero}
use Rattle.std.proofs.Math.Logic.{inl, inr}
use mathlib.Core.List.{List, [], ◌∷◌, ◌++◌}
use Rattle.std.proofs.Math.Option.{Option, some}
use Prim.Native.Nat.{ℕ, zero, suc, ◌+◌, ◌≤◌, ◌<◌}
use Rattle.std.proofs.Math.Decide.{dec_lt}
use native.Mathlib.Omega.{arith}
use Rattle.std.proofs.Math.ListN.{get_or}
use Rattle.std.specs.Prelude.{length}
use Rattle.rules.specs.Lists.{first}
use Rattle.rules.specs.Unit.{Descriptor, blank}
use Rattle.rules.specs.Settled.{Entry, Home, Physical, entries_in, entries_of, homes_from}
use Rattle.laws.specs.Homes.{home_of}
use Rattle.laws.specs.Lists.{Every, Has, every_append, every_map}
use Rattle.rules.specs.declared.Geometry.{Geometry}

-- The entry of a descriptor at position i of a unit that is L's home.
abbrev pub entry_at : ℕ → Physical → ℕ → Descriptor → Option Entry
entry_at L p i d = first (entries_in L p i (d ∷ []))

-- ---- the entries of an image, by their handles
module _ (L : ℕ) (p : Physical) where
  pub record EntryIn (array : List Descriptor) (e : Entry) : Type 0 where
    pub unit : e.at.unit ≡ L
    pub here : get_or array e.at.position blank ≡ e.descriptor
    pub is : entry_at L p e.at.position e.descriptor ≡ some e

  -- the rest of an array is ds from position i on
  each_in : (array : List Descriptor) (i : ℕ) (ds : List Descriptor) → ((j : ℕ) → get_or array (i + j) blank ≡ get_or ds j blank) → Every (EntryIn array) (entries_in L p i ds)
  unfolding entries_in first
  each_in array i [] f = tt
  each_in array i (d ∷ ds) f = (
    record { unit = refl; here = ap (λ (k : ℕ). get_or array k blank) (sym (add-zero i)) ∙ f 0; is = refl },
    each_in array (suc i) ds (λ j. ap (λ (k : ℕ). get_or array k blank) (more j) ∙ f (suc j)),
  )
    where
      more : (j : ℕ) → suc i + j ≡ i + suc j
      more j = omega arith

  -- and each descriptor is an entry
  pub has_in : (i : ℕ) (ds : List Descriptor) (j : ℕ) → j < length ds → (e : Entry) → entry_at L p (i + j) (get_or ds j blank) ≡ some e → Has e (entries_in L p i ds)
  unfolding entries_in first
  has_in i [] j l e q = absurd (not-suc-le-zero l)
  has_in i (d ∷ ds) zero l e q = inl (sym (let h : ◌≡◌ {A = Option Entry} (entry_at L p i d) (some e) = ap (λ (k : ℕ). entry_at L p k d) (sym (add-zero i)) ∙ q in cc))
  has_in i (d ∷ ds) (suc j) l e q = inr (has_in (suc i) ds j (le_of_suc-le-suc l) e (ap (λ (k : ℕ). entry_at L p k (get_or ds j blank)) more ∙ q))
    where
      more : suc i + j ≡ i + suc j
      more = omega arith

has_left : {A : Type 0} (x : A) (xs ys : List A) → Has x xs → Has x (xs ++ ys)
has_left x [] ys h = absurd h
has_left x (y ∷ xs) ys (inl e) = inl e
has_left x (y ∷ xs) ys (inr h) = inr (has_left x xs ys h)

has_right : {A : Type 0} (x : A) (xs ys : List A) → Has x ys → Has x (xs ++ ys)
has_right x [] ys h = h
has_right x (y ∷ xs) ys h = inr (has_right x xs ys h)

module _ (g : Geometry) (ps : List Physical) where
  -- an entry stands in the home of its unit
  pub record StoodHome (e : Entry) : Type 0 where
    pub at : EntryIn e.at.unit (home_of g ps e.at.unit).unit (home_of g ps e.at.unit).room.array e

  stood_in : (L : ℕ) (e : Entry) → EntryIn L (home_of g ps L).unit (home_of g ps L).room.array e → StoodHome e
  stood_in L e a = record { at = subst (λ (k : ℕ). EntryIn k (home_of g ps k).unit (home_of g ps k).room.array e) (sym a.unit) a }

  pub each_of : (k L : ℕ) → Every (λ (e : Entry). (e.at.unit < L + k) × StoodHome e) (entries_of (homes_from g k L ps))
  unfolding entries_of homes_from home_of
  each_of zero L = tt
  each_of (suc k) L =
      every_append (λ (e : Entry). (e.at.unit < L + suc k) × StoodHome e) (entries_in L h.unit 0 h.room.array) (entries_of (homes_from g k (suc L) ps))
      (every_map (EntryIn L h.unit h.room.array) (λ (e : Entry). (e.at.unit < L + suc k) × StoodHome e) (λ e a. (omega (arith, a.unit), stood_in L e a)) (entries_in L h.unit 0 h.room.array) (each_in L h.unit h.room.array 0 h.room.array (λ j. ap (λ (i : ℕ). get_or h.room.array i blank) (zero-add j))))
      (every_map (λ (e : Entry). (e.at.unit < suc L + k) × StoodHome e) (λ (e : Entry). (e.at.unit < L + suc k) × StoodHome e) (λ e a. (omega (arith, a.0), a.1)) (entries_of (homes_from g k (suc L) ps)) (each_of k (suc L)))
    where
      h : Home
      h = home_of g ps L

  pub has_of : (k L j : ℕ) → L ≤ j → j < L + k → (e : Entry) → Has e (entries_in j (home_of g ps j).unit 0 (home_of g ps j).room.array) → Has e (entries_of (homes_from g k L ps))
  unfolding entries_of homes_from home_of
  has_of zero L j a b e h = absurd (let w : ⊥ = omega arith in w)
  has_of (suc k) L j a b e h = go (dec_lt L j) (λ l. has_of k (suc L) j (omega arith) (omega arith) e h)
    where
      front : List Entry
      front = entries_in L (home_of g ps L).unit 0 (home_of g ps L).room.array

      go : Dec (L < j) → (L < j → Has e (entries_of (homes_from g k (suc L) ps))) → Has e (entries_of (homes_from g (suc k) L ps))
      go (yes l) r = has_right e front (entries_of (homes_from g k (suc L) ps)) (r l)
      go (no l) r =
          let same : j ≡ L = omega arith in
          has_left e front (entries_of (homes_from g k (suc L) ps)) (subst (λ (i : ℕ). Has e (entries_in i (home_of g ps i).unit 0 (home_of g ps i).room.array)) same h)
