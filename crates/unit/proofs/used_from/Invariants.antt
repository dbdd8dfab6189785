use Prim.Native.Nat.{◌-◌, ◌≤◌}
use mathlib.Core.Path.{◌≡◌}
use lib.ListN.{length, drop}
use Rattle.rules.specs.Unit.{stands}
use Rattle.unit.specs.Shapes.{used_from}
use Rattle.unit.proofs.used_from.Given as goal

abbrev pub invariant-loop-first : goal.invariant-loop-first
invariant-loop-first l = (stands l.p ≤ length l.unit) × (used_from (length l.unit - l.p) (drop (stands l.p) l.unit) l.p l.low ≡ used_from (length l.unit - l.first) (drop (stands l.first) l.unit) l.first l.low)

abbrev pub decreases-loop-first : goal.decreases-loop-first
decreases-loop-first l = length l.unit - l.p
