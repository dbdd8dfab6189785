use Prim.Native.Nat.{◌+◌, ◌%◌}
use mathlib.Core.Path.{◌≡◌}
use lib.ListN.{drop}
use Rattle.rules.specs.Flash.{state, run, programs, words}
use Rattle.step_move.specs.Copying.{part}
use Rattle.step_move.specs.Laws.{sector}
use Rattle.step_move.proofs.carry.Given as goal

abbrev pub invariant-loop-i : goal.invariant-loop-i
invariant-loop-i l = record {
  even : l.i % 2 ≡ 0;
  home : part l.image l.way.from l.size ≡ part l.initial.image l.way.from l.size;
  left : run (programs (l.way.to + (l.target + l.i)) (words (drop l.i (sector l.initial.image l.way.from l.size l.source l.len)))) (state l.image l.r)
      ≡ run (programs (l.way.to + l.target) (words (sector l.initial.image l.way.from l.size l.source l.len))) (state l.initial.image l.initial.r);
}
