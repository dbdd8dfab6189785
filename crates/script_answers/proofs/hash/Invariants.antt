use Rattle.std.proofs.Common.{◌≡◌, ◌<◌, drop}
use Rattle.script_answers.specs.Result.{hash_from, hash_of}
use Rattle.script_answers.proofs.hash.Given as goal

abbrev pub invariant-loop-b : goal.invariant-loop-b
invariant-loop-b l = (l.h < 4294967291) × (hash_from l.h (drop l.b-index l.image) ≡ hash_of l.image)
