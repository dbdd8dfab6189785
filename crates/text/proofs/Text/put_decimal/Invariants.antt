use Rattle.std.proofs.Common.{◌≡◌, ◌+◌, ◌<◌, ◌≤◌, ◌++◌, length, drop}
use Rattle.rules.specs.Text.{decimal}
use Rattle.text.proofs.Text.put_decimal.Given as goal

-- The last digits stand at the end, and there is room for those that are left.
abbrev pub invariant-loop-left : goal.invariant-loop-left
invariant-loop-left g l =
    (length l.digits ≡ 20) × (length (decimal l.left) ≤ l.start + 1) × (l.start < 20) × (decimal l.left ++ drop (l.start + 1) l.digits ≡ decimal l.m)

abbrev pub decreases-loop-left : goal.decreases-loop-left
decreases-loop-left g l = l.left
