-- What a test tells.
use Rattle.std.specs.Prelude.{◌≡◌, refl, ℕ, Bool, ◌&&◌, ◌||◌, List, ◌∷◌}
use Rattle.std.proofs.Common.{sym, arith, true≢false}
use Rattle.std.proofs.Math.Bool.{true, false}
use Rattle.rules.specs.Lists.{all}

-- A test holds or fails.
pub either : {A : Type 0} (b : Bool) → (b ≡ true → A) → (b ≡ false → A) → A
either true f g = f refl
either false f g = g refl

-- Nothing holds of two different constructors that are equal: `cc` then proves 0 ≡ 1.
pub clash : {A : Type 0} → ◌≡◌ {A = ℕ} 0 1 → A
clash e = absurd (omega arith)

-- Both of two tests that hold together hold.
pub and_inv : (a b : Bool) → a && b ≡ true → (a ≡ true) × (b ≡ true)
and_inv true b e = (refl, e)
and_inv false b e = absurd (true≢false (sym e))

-- Each of five tests that hold together holds.
pub five : (a b c d e : Bool) → a && b && c && d && e ≡ true → (a ≡ true) × (b ≡ true) × (c ≡ true) × (d ≡ true) × (e ≡ true)
five true true true true e h = (refl, refl, refl, refl, h)
five true true true false e h = absurd (true≢false (sym h))
five true true false d e h = absurd (true≢false (sym h))
five true false c d e h = absurd (true≢false (sym h))
five false b c d e h = absurd (true≢false (sym h))

-- One of two tests holds.
pub one : {A : Type 0} (a b : Bool) → a || b ≡ true → (a ≡ true → A) → (b ≡ true → A) → A
one true b e f g = f refl
one false b e f g = g e

module _ {A : Type 0} (p : A → Bool) where
  -- A test holds of a list where it holds of the first and of the rest.
  pub all_cons : (x : A) (xs : List A) → p x ≡ true → all p xs ≡ true → all p (x ∷ xs) ≡ true
  unfolding all
  all_cons x xs h k = rw (h, all) k

  -- And the other way.
  pub all_uncons : (x : A) (xs : List A) → all p (x ∷ xs) ≡ true → (p x ≡ true) × (all p xs ≡ true)
  unfolding all
  all_uncons x xs h = go (p x) h
    where
      go : (b : Bool) → (elim b as (λ j. Bool) [ true ↦ all p xs | false ↦ false ]) ≡ true → (b ≡ true) × (all p xs ≡ true)
      go true q = (refl, q)
      go false q = absurd (true≢false (sym q))
