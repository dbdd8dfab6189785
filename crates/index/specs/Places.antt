-- Places in order, no more than there is room for.
use Rattle.std.specs.Prelude.{ℕ, List, [], ◌∷◌, ◌++◌, cond, ltb, length}

-- One place more; of more than 257 the first 257.
unfoldable pub with_place : ℕ → List ℕ → List ℕ
with_place a ps = cond (ltb (length ps) 257) (ps ++ (a ∷ [])) ps
