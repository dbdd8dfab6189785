-- What holds of every member of a list.
use Rattle.std.specs.Prelude.{◌≡◌, ◌⊎◌, Bool, cond, ℕ, zero, suc, ◌≤◌, length, get_or}
use Rattle.std.proofs.Math.Path.{refl}
use Rattle.std.proofs.Common.{sym, ◌∙◌, inl, true≢false, arith}
use Rattle.std.proofs.Math.Logic.{inr}
use Rattle.std.proofs.Math.Bool.{true, false}
use mathlib.Core.List.{List, [], ◌∷◌, ◌++◌}
use Rattle.rules.specs.Lists.{all, filter}

module _ {A : Type 0} where
  -- P holds of every member.
  abbrev pub Every : (A → Type 0) → List A → Type 0
  Every P [] = Unit {0}
  Every P (x ∷ xs) = P x × Every P xs

  -- So does what follows from it.
  pub every_map : (P Q : A → Type 0) → ((x : A) → P x → Q x) → (xs : List A) → Every P xs → Every Q xs
  every_map P Q f [] h = tt
  every_map P Q f (x ∷ xs) h = (f x h.0, every_map P Q f xs h.1)

  -- So does what follows from it member by member.
  pub every_apply : (P Q : A → Type 0) (xs : List A) → Every (λ (x : A). P x → Q x) xs → Every P xs → Every Q xs
  every_apply P Q [] f h = tt
  every_apply P Q (x ∷ xs) f h = (f.0 h.0, every_apply P Q xs f.1 h.1)

  -- Of two lists, where it holds of both.
  pub every_append : (P : A → Type 0) (xs ys : List A) → Every P xs → Every P ys → Every P (xs ++ ys)
  every_append P [] ys h k = k
  every_append P (x ∷ xs) ys h k = (h.0, every_append P xs ys h.1 k)

  -- Of what a filter lets through.
  pub every_filter : (P : A → Type 0) (f : A → Bool) (xs : List A) → Every P xs → Every P (filter f xs)
  unfolding filter
  every_filter P f [] h = tt
  every_filter P f (x ∷ xs) h = go (f x) (every_filter P f xs h.1)
    where
      go : (b : Bool) → Every P (filter f xs) → Every P (cond b (x ∷ filter f xs) (filter f xs))
      go true k = (h.0, k)
      go false k = k

  -- What a filter lets through passes its test.
  pub filter_passes : (f : A → Bool) (xs : List A) → Every (λ (x : A). f x ≡ true) (filter f xs)
  unfolding filter
  filter_passes f [] = tt
  filter_passes f (x ∷ xs) = go (f x) refl (filter_passes f xs)
    where
      go : (b : Bool) → f x ≡ b → Every (λ (y : A). f y ≡ true) (filter f xs) → Every (λ (y : A). f y ≡ true) (cond b (x ∷ filter f xs) (filter f xs))
      go true e k = (e, k)
      go false e k = k

  -- Of the i-th member, or of what stands for none.
  pub every_get : (P : A → Type 0) (d : A) → P d → (xs : List A) → Every P xs → (i : ℕ) → P (get_or xs i d)
  every_get P d k [] h i = k
  every_get P d k (x ∷ xs) h zero = h.0
  every_get P d k (x ∷ xs) h (suc i) = every_get P d k xs h.1 i

  -- A test of all is a test of each.
  pub every_all : (f : A → Bool) (xs : List A) → all f xs ≡ true → Every (λ (x : A). f x ≡ true) xs
  unfolding all
  every_all f [] e = tt
  every_all f (x ∷ xs) e = go (f x) refl e (every_all f xs)
    where
      go : (b : Bool) → f x ≡ b → (elim b as (λ j. Bool) [ true ↦ all f xs | false ↦ false ]) ≡ true
          → (all f xs ≡ true → Every (λ (y : A). f y ≡ true) xs) → (f x ≡ true) × Every (λ (y : A). f y ≡ true) xs
      go true t q k = (t, k q)
      go false t q k = absurd (true≢false (sym q))

  -- ---- members
  -- x is a member of the list.
  abbrev pub Has : A → List A → Type 0
  Has x [] = ⊥
  Has x (y ∷ ys) = (x ≡ y) ⊎ Has x ys

  -- What holds of every member holds of this one.
  pub every_has : (P : A → Type 0) (x : A) (xs : List A) → Every P xs → Has x xs → P x
  every_has P x [] h k = absurd k
  every_has P x (y ∷ ys) h (inl e) = rw e h.0
  every_has P x (y ∷ ys) h (inr k) = every_has P x ys h.1 k

  -- A member that passes the test is let through.
  pub filter_has : (f : A → Bool) (x : A) (xs : List A) → f x ≡ true → Has x xs → Has x (filter f xs)
  unfolding filter
  filter_has f x [] e k = k
  filter_has f x (y ∷ ys) e (inl q) = let p : f y ≡ true = rw (← q) e in rw p (inl q)
  filter_has f x (y ∷ ys) e (inr k) = go (f y) (filter_has f x ys e k)
    where
      go : (b : Bool) → Has x (filter f ys) → Has x (cond b (y ∷ filter f ys) (filter f ys))
      go true h = inr h
      go false h = h

  -- A list with a member is not empty.
  pub has_some : (x : A) (xs : List A) → Has x xs → 1 ≤ length xs
  has_some x [] h = absurd h
  has_some x (y ∷ ys) h = omega arith

  -- In a list of one, two members are the same.
  pub has_one : (x y : A) (xs : List A) → length xs ≡ 1 → Has x xs → Has y xs → x ≡ y
  has_one x y [] e h k = absurd h
  has_one x y (z ∷ []) e (inl p) (inl q) = p ∙ sym q
  has_one x y (z ∷ []) e (inl p) (inr k) = absurd k
  has_one x y (z ∷ []) e (inr h) k = absurd h
  has_one x y (z ∷ (w ∷ ws)) e h k = absurd (omega arith)
