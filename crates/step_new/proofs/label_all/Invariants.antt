use Prim.Native.Nat.{◌-◌, ◌*◌}
use mathlib.Core.Path.{◌≡◌}
use Rattle.rules.specs.Flash.{state, run}
use Rattle.rules.specs.Jobs.{headers}
use Rattle.step_new.proofs.label_all.Given as goal

abbrev pub invariant-loop-u : goal.invariant-loop-u
invariant-loop-u l = run (headers l.g (l.g.units - 1 - l.u) (l.u * l.g.size) l.u) (state l.image l.r) ≡ run (headers l.g (l.g.units - 1) 0 0) (state l.initial.image l.initial.r)
