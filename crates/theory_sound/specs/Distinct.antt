-- Numbers that differ from one another: where as many as there are stand below a bound, each number below it is among them.
use Rattle.std.specs.Prelude.{Bool, cond, false, not, true, List, [], ◌∷◌, ◌≢◌, ◌≡◌, refl, ◌<◌, ◌≤◌, suc, zero, ℕ, eqb, length}
use Rattle.std.proofs.Common.{inl, inr, ◌∙◌, ap, sym, arith}
use Rattle.std.proofs.Math.Decide.{ℕ_discrete}
use Rattle.rules.specs.Lists.{filter}
use Rattle.laws.specs.Lists.{Every, Has, every_filter, every_map}
use Rattle.theory.specs.Base.Facts.{differ, eq_of, eqb_same, true_false}

abbrev pub Distinct : List ℕ → Type 0
Distinct [] = Unit {0}
Distinct (x ∷ xs) = Every (λ (y : ℕ). y ≢ x) xs × Distinct xs

abbrev without : ℕ → List ℕ → List ℕ
without x l = filter (λ (y : ℕ). not (eqb y x)) l

distinct_filter : (p : ℕ → Bool) (l : List ℕ) → Distinct l → Distinct (filter p l)
unfolding filter
distinct_filter p [] h = tt
distinct_filter p (x ∷ l) h = go (p x) (distinct_filter p l h.1)
  where
    go : (b : Bool) → Distinct (filter p l) → Distinct (cond b (x ∷ filter p l) (filter p l))
    go true k = (every_filter (λ (y : ℕ). y ≢ x) p l h.0, k)
    go false k = k

none_gone : (x : ℕ) (l : List ℕ) → Every (λ (y : ℕ). y ≢ x) l → length (without x l) ≡ length l
unfolding filter
none_gone x [] h = refl
none_gone x (y ∷ l) h = go (eqb y x) (differ h.0) (none_gone x l h.1)
  where
    go : (b : Bool) → b ≡ false → length (without x l) ≡ length l → length (cond (not b) (y ∷ without x l) (without x l)) ≡ suc (length l)
    go b e k = ap (λ (c : Bool). length (cond (not c) (y ∷ without x l) (without x l))) e ∙ ap suc k

one_gone : (x : ℕ) (l : List ℕ) → Distinct l → length l ≤ suc (length (without x l))
unfolding filter
one_gone x [] h = omega arith
one_gone x (y ∷ l) h = go (eqb y x) refl (one_gone x l h.1)
  where
    go : (b : Bool) → eqb y x ≡ b → length l ≤ suc (length (without x l)) → suc (length l) ≤ suc (length (cond (not b) (y ∷ without x l) (without x l)))
    go true e k = omega (arith, none_gone x l (every_map (λ (z : ℕ). z ≢ y) (λ (z : ℕ). z ≢ x) (λ z d q. d (q ∙ sym (eq_of y x e))) l h.0))
    go false e k = omega (arith, k)

-- of those that differ from x and are at most x, each is less
less_filter : (m : ℕ) (l : List ℕ) → Every (λ (y : ℕ). y < suc m) l → Every (λ (y : ℕ). y < m) (without m l)
unfolding filter
less_filter m [] h = tt
less_filter m (y ∷ l) h = go (eqb y m) refl (less_filter m l h.1)
  where
    go : (b : Bool) → eqb y m ≡ b → Every (λ (z : ℕ). z < m) (without m l) → Every (λ (z : ℕ). z < m) (cond (not b) (y ∷ without m l) (without m l))
    go true e k = k
    go false e k = (omega (arith, h.0, apart), k)
      where
        apart : y ≢ m
        apart q = true_false (eqb y m) (ap (λ (t : ℕ). eqb t m) q ∙ eqb_same m) e

-- numbers that differ, below m, are at most m
pub distinct_few : (m : ℕ) (l : List ℕ) → Distinct l → Every (λ (y : ℕ). y < m) l → length l ≤ m
distinct_few zero [] d h = omega arith
distinct_few zero (x ∷ l) d h = absurd (let w : ⊥ = omega (arith, h.0) in w)
distinct_few (suc m) l d h = omega (arith, one_gone m l d, distinct_few m (without m l) (distinct_filter (λ (y : ℕ). not (eqb y m)) l d) (less_filter m l h))

-- is x among them?
among : (x : ℕ) (l : List ℕ) → Dec (Has x l)
among x [] = no (λ h. h)
among x (y ∷ l) = go (ℕ_discrete x y) (among x l)
  where
    go : Dec (x ≡ y) → Dec (Has x l) → Dec (Has x (y ∷ l))
    go (yes e) b = yes (inl e)
    go (no a) (yes h) = yes (inr h)
    go (no a) (no b) = no each
      where
        each : Has x (y ∷ l) → ⊥
        each (inl e) = a e
        each (inr h) = b h

not_among : (x : ℕ) (l : List ℕ) → ¬ (Has x l) → Every (λ (y : ℕ). y ≢ x) l
not_among x [] h = tt
not_among x (y ∷ l) h = ((λ e. h (inl (sym e))), not_among x l (λ k. h (inr k)))

-- as many as the bound: each number below it is among them
pub all_among : (m : ℕ) (l : List ℕ) → Distinct l → Every (λ (y : ℕ). y < m) l → length l ≡ m → (x : ℕ) → x < m → Has x l
all_among m l d h e x k = go (among x l)
  where
    go : Dec (Has x l) → Has x l
    go (yes y) = y
    go (no y) = absurd (let w : ⊥ = omega (arith, e, distinct_few m (x ∷ l) (not_among x l y, d) (k, h)) in w)
