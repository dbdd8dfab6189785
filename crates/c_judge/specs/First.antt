-- What every call answers first: the first three refusals, or 0.
use Rattle.std.specs.Prelude.{ℕ, ◌+◌, ◌%◌, cond, Err, [], ◌∷◌, length}
use Rattle.rules.specs.Flash.{Bytes, is_geometry}
use Rattle.rules.specs.Settled.{survey}
use Rattle.rules.specs.Sound.{standing}
use Rattle.rules.specs.Answers.{number}
use Rattle.rules.specs.declared.Geometry.{Geometry}
use Rattle.rules.specs.declared.Standing.{Standing}
use Rattle.rules.specs.declared.Standing.TheVariants.{Settled, Sound, Neither}
use Rattle.rules.specs.declared.NotDone.TheVariants.{BadGeometry, BadImage, Unsettled}

abbrev pub number_for : Standing → ℕ
number_for Settled = 0
number_for Sound = number (Err Unsettled)
number_for Neither = number (Err BadImage)

abbrev pub first : Geometry → Bytes → ℕ
first g s = cond (is_geometry g (length s)) (number_for (standing g (survey g s))) (number (Err BadGeometry))

-- The sum of the bytes, modulo 2 to the 32nd.
unfoldable pub sum : ℕ → Bytes → ℕ
sum m [] = m
sum m (b ∷ bs) = sum ((m + b) % 4294967296) bs
