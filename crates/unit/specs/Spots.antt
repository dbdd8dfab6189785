-- Where descriptors stand in an image, and the places of entries.
use Rattle.std.specs.Prelude.{◌≡◌, cond, List, [], ◌∷◌, ℕ, ◌+◌, ◌%◌, ◌≤◌, eqb}
use Rattle.rules.specs.Unit.{descriptor_bytes}
use Rattle.rules.specs.Settled.{Entry}

-- a descriptor can stand at a, in an image of so many bytes
pub record Spot (bytes a : ℕ) : Type 0 where
  pub whole : a % descriptor_bytes ≡ 0
  pub inside : a + descriptor_bytes ≤ bytes

-- so where a is a place; 0 is none
abbrev pub SpotIf : ℕ → ℕ → Type 0
SpotIf bytes a = (a ≡ 0 → ⊥) → Spot bytes a

unfoldable pub places : List Entry → List ℕ
places [] = []
places (e ∷ es) = e.place ∷ places es

-- a place that may be there, 0 where it is not
unfoldable pub one_at : ℕ → List ℕ
one_at a = cond (eqb a 0) [] (a ∷ [])
