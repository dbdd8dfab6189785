use mathlib.Core.Path.{◌≡◌}
use lib.ListN.{drop}
use Rattle.rules.specs.Flash.{state, run}
use Rattle.step_end.specs.Turns.{turns_at}
use Rattle.step_end.specs.Laws.{Tags}
use Rattle.step_end.proofs.turns.Given as goal

abbrev pub invariant-loop-place : goal.invariant-loop-place
invariant-loop-place l = Tags l.image l.initial.image × (run (turns_at l.initial.image l.current (drop l.place-index l.pending)) (state l.image l.r) ≡ run (turns_at l.initial.image l.current l.pending) (state l.initial.image l.initial.r))
