use Rattle.std.proofs.Common.{◌≡◌, drop}
use Rattle.c_judge.specs.First.{sum}
use Rattle.c_judge.proofs.us_sum.Given as goal

abbrev pub invariant-loop-byte : goal.invariant-loop-byte
invariant-loop-byte l = sum l.total (drop l.byte-index l.image) ≡ sum 0 l.image
