use mathlib.Core.Path.{◌≡◌}
use mathlib.Core.List.{[]}
use lib.ListN.{length}
use Rattle.rules.specs.Unit.{stands}
use Rattle.unit.specs.Shapes.{earlier, lowest_of, all_ok, array_of}
use Rattle.unit.specs.LoopTurns.{from}
use Rattle.home.proofs.are_placed.Given as goal

abbrev pub invariant-loop-p : goal.invariant-loop-p
invariant-loop-p l = (l.low ≡ lowest_of (length l.unit) (earlier l.p l.unit)) × (all_ok l.g (stands l.n) (earlier l.p l.unit) (from l.unit l.n l.p) ≡ all_ok l.g (stands l.n) [] (array_of l.n l.unit))
