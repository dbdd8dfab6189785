use Rattle.std.proofs.Common.{◌≡◌, ◌+◌, ◌*◌, ◌≤◌, ◌++◌, length, drop}
use Rattle.script_looks.specs.Laws.{front_of}
use Rattle.script_looks.proofs.put_joined.Given as goal

abbrev pub invariant-loop-b : goal.invariant-loop-b
invariant-loop-b g l = (length l.out ≤ length l.initial.out + 3 * l.b-index) × (l.out ++ front_of (drop l.b-index l.front) ≡ l.initial.out ++ front_of l.front)
