-- Whether a unit moves beside its home, as the code asks it.
use Rattle.std.specs.Prelude.{Bool, true, false, cond, ℕ, eqb}
use Rattle.rules.specs.Flash.{Bytes, word}
use Rattle.rules.specs.Unit.{live, receiving, retired}
use Rattle.copy.specs.Stream.{is_copy}

unfoldable pub is_live : Bytes → Bool
is_live u = eqb (word u 2) live

-- a moving unit: r is nobody's home, h is the home of its logical number, and so many homes are not live
unfoldable pub moves : ℕ → Bytes → Bytes → Bool
moves others r h =
    cond (eqb (word r 2) receiving)
    (cond (eqb others 0) (is_copy false h r) (cond (eqb others 1) (cond (is_live h) false (is_copy true h r)) false))
    (cond (eqb (word r 2) retired) (cond (eqb others 0) (is_copy true r h) false) false)
