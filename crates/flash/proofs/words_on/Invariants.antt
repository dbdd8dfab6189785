use Rattle.std.proofs.Common.{◌≡◌, ◌+◌, ◌%◌, drop}
use Rattle.rules.specs.Flash.{state, run, programs, words}
use Rattle.flash.proofs.words_on.Given as goal

abbrev pub invariant-loop-i : goal.invariant-loop-i
invariant-loop-i l = record {
  even : l.i % 2 ≡ 0;
  left : run (programs (l.base + (l.at + l.i)) (words (drop l.i l.content))) (state l.image l.r) ≡ run (programs (l.base + l.at) (words l.content)) (state l.initial.image l.initial.r);
}
