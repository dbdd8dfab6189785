use mathlib.Core.Path.{◌≡◌}
use lib.ListN.{drop}
use Rattle.rules.specs.Flash.{state, run}
use Rattle.step_new.specs.Places.{become_at}
use Rattle.step_new.proofs.become_all.Given as goal

abbrev pub invariant-loop-place : goal.invariant-loop-place
invariant-loop-place l = run (become_at l.flags (drop l.place-index l.places)) (state l.image l.r) ≡ run (become_at l.flags l.places) (state l.initial.image l.initial.r)
