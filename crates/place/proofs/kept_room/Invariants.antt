use Prim.Native.Nat.{◌≤◌}
use mathlib.Core.Path.{◌≡◌}
use lib.ListN.{length}
use Rattle.unit.specs.Shapes.{array_of, kept_from}
use Rattle.unit.specs.LoopTurns.{from}
use Rattle.place.proofs.kept_room.Given as goal

abbrev pub invariant-loop-p : goal.invariant-loop-p
invariant-loop-p l = (l.room.n ≤ l.p) × (kept_from (from l.unit l.n l.p) l.p l.room.low l.room.n ≡ kept_from (array_of l.n l.unit) 0 (length l.unit) 0)
