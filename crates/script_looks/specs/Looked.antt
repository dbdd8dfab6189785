-- What the lines that only look at an image answer.
use Rattle.std.specs.Prelude.{cond, [], ◌∷◌, ◌++◌, ℕ, eqb, length}
use Prim.Native.String.{String}
use Rattle.rules.specs.Flash.{Bytes, is_geometry}
use Rattle.rules.specs.Settled.{survey}
use Rattle.rules.specs.Sound.{standing}
use Rattle.rules.specs.Text.{text, lf}
use Rattle.rules.specs.declared.Geometry.{Geometry}
use Rattle.rules.specs.declared.Standing.{Standing}
use Rattle.rules.specs.declared.Standing.TheVariants.{Settled, Sound, Neither}

-- A line of its own.
unfoldable pub said : String → Bytes
said x = text x ++ (lf ∷ [])

-- `settled`, `unsettled`, `bad_image` or `bad_geometry`.
unfoldable pub verdict_when : Standing → Bytes
verdict_when Settled = said "settled"
verdict_when Sound = said "unsettled"
verdict_when Neither = said "bad-image"

unfoldable pub verdict : Geometry → Bytes → Bytes
verdict g s = cond (is_geometry g (length s)) (verdict_when (standing g (survey g s))) (said "bad-geometry")

-- Lines joined by ` | `; the last one's line feed, behind which nothing is left, stays.
unfoldable pub piece : ℕ → ℕ → Bytes
piece c left = cond (eqb left 0) (c ∷ []) (cond (eqb c lf) (text " | ") (c ∷ []))

unfoldable pub joined : Bytes → Bytes
joined [] = []
joined (c ∷ s) = piece c (length s) ++ joined s
