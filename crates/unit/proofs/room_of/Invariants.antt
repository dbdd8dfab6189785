use Prim.Native.Nat.{◌+◌, ◌-◌, ◌≤◌}
use mathlib.Core.Path.{◌≡◌}
use mathlib.Core.Bool.{false}
use lib.ListN.{length, drop}
use Rattle.rules.specs.Unit.{stands, is_empty}
use Rattle.unit.specs.Shapes.{descriptor_at, upward, room_of}
use Rattle.unit.proofs.room_of.Given as goal

abbrev pub invariant-loop-low : goal.invariant-loop-low
invariant-loop-low l = (stands l.p ≤ length l.unit) × (l.low ≤ length l.unit) × (l.n ≤ l.p) × (stands l.p + 8 ≤ l.low → is_empty (descriptor_at l.unit (stands l.p)) ≡ false) × (upward (length l.unit - l.p) (drop (stands l.p) l.unit) l.p l.low l.n ≡ room_of (length l.unit) l.unit)

abbrev pub decreases-loop-low : goal.decreases-loop-low
decreases-loop-low l = length l.unit - l.p
