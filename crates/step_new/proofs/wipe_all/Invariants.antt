use Prim.Native.Nat.{◌-◌, ◌*◌}
use mathlib.Core.Path.{◌≡◌}
use lib.ListN.{drop}
use Rattle.rules.specs.Flash.{state, run}
use Rattle.rules.specs.Settled.{units_from, units_of}
use Rattle.rules.specs.Jobs.{erases}
use Rattle.step_new.proofs.wipe_all.Given as goal

abbrev pub invariant-loop-u : goal.invariant-loop-u
invariant-loop-u l = (drop (l.u * l.g.size) l.image ≡ drop (l.u * l.g.size) l.initial.image) × (run (erases l.g (units_from l.g (l.g.units - l.u) (l.u * l.g.size) (drop (l.u * l.g.size) l.initial.image))) (state l.image l.r) ≡ run (erases l.g (units_of l.g l.initial.image)) (state l.initial.image l.initial.r))
