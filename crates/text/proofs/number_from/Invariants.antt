use Rattle.std.proofs.Common.{◌≡◌, ◌≤◌, drop}
use Rattle.rules.specs.Text.{number_from}
use Rattle.text.proofs.number_from.Given as goal

abbrev pub invariant-loop-i : goal.invariant-loop-i
invariant-loop-i l = (l.value ≤ 65536) × (number_from l.value (drop l.i l.line) ≡ number_from 0 l.line)
