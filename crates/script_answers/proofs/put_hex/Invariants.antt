use Rattle.std.proofs.Common.{◌≡◌, ◌+◌, ◌*◌, ◌++◌, length, drop}
use Rattle.script_answers.specs.Result.{hex_of}
use Rattle.script_answers.proofs.put_hex.Given as goal

abbrev pub invariant-loop-b : goal.invariant-loop-b
invariant-loop-b g l = (length l.out ≡ length l.initial.out + 2 * l.b-index) × (l.out ++ hex_of (drop l.b-index l.content) ≡ l.initial.out ++ hex_of l.content)
