-- Files that come again, by marks and by pairs: none, one or several of both.
use Rattle.std.specs.Prelude.{ℕ, zero, suc, ◌+◌, ◌≤◌, ◌<◌, ◌≡◌, refl, Bool, true, false, cond, List, [], ◌∷◌, eqb, length, get_or, set, replicate}
use Rattle.std.proofs.Common.{arith, sym, ap, ◌∙◌, ne_eqb, eqb-true, length-set, get_or-set_same, get_or-set_other, set-set}
use Rattle.std.proofs.lemmas.Bool.{eqb-false}
use Rattle.std.proofs.lemmas.List.{get_or-replicate, length-replicate, set_comm}
use Rattle.counts.specs.Few.{one_more, few, more_few}
use Rattle.counts.specs.Sums.{repeats}

unfoldable pub occurs : ℕ → List ℕ → ℕ
occurs f [] = 0
occurs f (g ∷ fs) = cond (eqb g f) (suc (occurs f fs)) (occurs f fs)

-- the pairs of one file
unfoldable pub twins : List ℕ → ℕ
twins [] = 0
twins (f ∷ fs) = occurs f fs + twins fs

unfoldable pub has : ℕ → List ℕ → ℕ
has f fs = cond (eqb (occurs f fs) 0) 0 1

pub data FileList : List ℕ → Type 0 where
  no_more : FileList []
  one_more_lem : {f : ℕ} {fs : List ℕ} → f < 256 → FileList fs → FileList (f ∷ fs)

-- one file more that was seen is one repeat more where it comes
repeats_mark : (fs : List ℕ) (seen : List Bool) (f : ℕ) → f < length seen → get_or seen f false ≡ false → repeats (set seen f true) fs ≡ repeats seen fs + has f fs
unfolding repeats has occurs
repeats_mark [] seen f h z = refl
repeats_mark (g ∷ fs) seen f h z = go (λ s k y. repeats_mark fs s f k y) (eqb g f) refl
  where
    go : ((s : List Bool) → f < length s → get_or s f false ≡ false → repeats (set s f true) fs ≡ repeats s fs + has f fs) → (x : Bool) → eqb g f ≡ x
        → cond (get_or (set seen f true) g false) (suc (repeats (set (set seen f true) g true) fs)) (repeats (set (set seen f true) g true) fs)
        ≡ cond (get_or seen g false) (suc (repeats (set seen g true) fs)) (repeats (set seen g true) fs) + cond (eqb (cond x (suc (occurs f fs)) (occurs f fs)) 0) 0 1
    go rec true e =
        let eg : g ≡ f = eqb-true g f e in
        let n : eqb (suc (occurs f fs)) 0 ≡ false = ne_eqb (suc (occurs f fs)) 0 (λ k. omega arith) in
        rw (eg, get_or-set_same seen f true false h, set-set seen f true true, z, n) (omega arith)
    go rec false e =
        let ne : f ≡ g → ⊥ = λ k. eqb-false g f e (sym k) in
        let ng : g ≡ f → ⊥ = eqb-false g f e in
        let a : get_or (set seen g true) f false ≡ false = get_or-set_other seen g f true false ne ∙ z in
        let ih : repeats (set (set seen g true) f true) fs ≡ repeats (set seen g true) fs + has f fs = rec (set seen g true) (rw (length-set seen g true) h) a in
        rw (get_or-set_other seen f g true false ng, set_comm seen f g true true ne, ih) (each (get_or seen g false) (repeats (set seen g true) fs) (has f fs))
      where
        each : (y : Bool) (r n : ℕ) → cond y (suc (r + n)) (r + n) ≡ cond y (suc r) r + n
        each true r n = omega arith
        each false r n = refl

twins_of : (f : ℕ) (fs : List ℕ) → 2 ≤ occurs f fs → 1 ≤ twins fs
unfolding occurs twins
twins_of f [] h = absurd (omega arith)
twins_of f (g ∷ fs) h = go (λ k. twins_of f fs k) (eqb g f) refl h
  where
    go : (2 ≤ occurs f fs → 1 ≤ twins fs) → (x : Bool) → eqb g f ≡ x → 2 ≤ cond x (suc (occurs f fs)) (occurs f fs) → 1 ≤ occurs g fs + twins fs
    go rec true e h =
        let eg : g ≡ f = eqb-true g f e in
        rw eg (omega arith)
    go rec false e h = omega (arith, rec h)

step : (o r t : ℕ) → few r ≡ few t → (2 ≤ o → 1 ≤ t) → few (r + cond (eqb o 0) 0 1) ≡ few (o + t)
step zero r t e k =
    let a : r + 0 ≡ r = omega arith in
    let b : 0 + t ≡ t = omega arith in
    rw (a, b) e
step (suc zero) r t e k =
    let a : r + 1 ≡ suc r = omega arith in
    let b : 1 + t ≡ suc t = omega arith in
    rw (a, b) (sym (more_few r) ∙ ap one_more e ∙ more_few t)
step (suc (suc o)) r t e k = go r t e (k (omega arith))
  where
    n : eqb (suc (suc o)) 0 ≡ false
    n = ne_eqb (suc (suc o)) 0 (λ k. omega arith)

    go : (r t : ℕ) → few r ≡ few t → 1 ≤ t → few (r + cond (eqb (suc (suc o)) 0) 0 1) ≡ few (suc (suc o) + t)
    go r zero e k = absurd (omega arith)
    go zero (suc zero) e k = cc
    go zero (suc (suc t)) e k = cc
    go (suc r) (suc t) e k =
        let a : suc r + 1 ≡ suc (suc r) = omega arith in
        let b : suc (suc o) + suc t ≡ suc (suc (o + suc t)) = omega arith in
        rw (n, a, b)

pub few_twins : {fs : List ℕ} → FileList fs → few (repeats (replicate 256 false) fs) ≡ few (twins fs)
unfolding repeats twins has
few_twins no_more = refl
few_twins (one_more_lem {f} {fs} h t) =
    rw (fresh f h, repeats_mark fs (replicate 256 false) f (rw (length-replicate 256 false) h) (fresh f h)) (opened f fs (few_twins t))
  where
    fresh : (f : ℕ) → f < 256 → get_or (replicate 256 false) f false ≡ false
    fresh f h = get_or-replicate 256 f false false h

    opened : (f : ℕ) (fs : List ℕ) → few (repeats (replicate 256 false) fs) ≡ few (twins fs) → few (repeats (replicate 256 false) fs + has f fs) ≡ few (occurs f fs + twins fs)
    opened f fs e = (step (occurs f fs) (repeats (replicate 256 false) fs) (twins fs) e (twins_of f fs))
