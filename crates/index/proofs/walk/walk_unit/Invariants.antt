use Rattle.std.proofs.Common.{◌≡◌, ◌-◌, ◌≤◌, length, drop}
use Rattle.rules.specs.Unit.{stands}
use Rattle.index.specs.Walk.{met_up}
use Rattle.index.proofs.walk.walk_unit.Given as goal

abbrev pub invariant-loop-low : goal.invariant-loop-low
invariant-loop-low g l =
    (stands l.p ≤ length l.unit) × (l.low ≤ length l.unit)
    × (met_up g.V.Visitor.met l.base (length l.unit - l.p) (drop (stands l.p) l.unit) l.p l.low l.visitor
    ≡ met_up g.V.Visitor.met l.base (length l.unit) (drop (stands 0) l.unit) 0 (length l.unit) l.initial.visitor)

abbrev pub decreases-loop-low : goal.decreases-loop-low
decreases-loop-low g l = length l.unit - l.p
