-- Lists: what is written past the end, and a list that is written from 0 up.
use Rattle.std.specs.Prelude.{◌≡◌, refl, ℕ, zero, suc, ◌≤◌, List, [], ◌∷◌, length, set}
use Rattle.std.proofs.Common.{◌∙◌, ap, not-suc-le-zero, le_of_suc-le-suc, length-set}

module _ {X : Type 0} where
  -- Written past the end, nothing changes.
  pub set_past : (l : List X) (i : ℕ) (a : X) → length l ≤ i → set l i a ≡ l
  set_past [] i a h = refl
  set_past (x ∷ xs) zero a h = absurd (not-suc-le-zero h)
  set_past (x ∷ xs) (suc i) a h = ap {B = List X} (λ r. x ∷ r) (set_past xs i a (le_of_suc-le-suc h))

  -- xs with f 0, f 1, .., f (k - 1) written at 0, 1, .., k - 1
  abbrev pub laid_by : (ℕ → X) → ℕ → List X → List X
  laid_by f zero xs = xs
  laid_by f (suc k) xs = set (laid_by f k xs) k (f k)

  pub length_laid : (f : ℕ → X) (k : ℕ) (xs : List X) → length (laid_by f k xs) ≡ length xs
  length_laid f zero xs = refl
  length_laid f (suc k) xs = length-set (laid_by f k xs) k (f k) ∙ length_laid f k xs
