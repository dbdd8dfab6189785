use Prim.Native.Nat.{◌-◌}
use native.Mathlib.Omega.{arith}
use mathlib.Core.Path.{sym, ◌∙◌}
use Rattle.rules.specs.Flash.{state}
use Rattle.step_new.specs.Laws.{label_turn, label_end}
use Rattle.step_new.proofs.label_all.Goals as goal

pub loop-u-preserved : goal.loop-u-preserved
loop-u-preserved c = label_turn c.args.g (c.args.g.units - 1) c.loop-u.u (state c.loop-u.image c.loop-u.r) (state c.label-r.new.image c.label-r.result) (omega arith) (rw c.base.ensures at c.label-r.ensures) ∙ c.loop-u.invariant

pub returns : goal.returns
returns c = sym (label_end c.args.g (c.args.g.units - 1) c.loop-u.u (state c.loop-u.image c.loop-u.r) (omega arith)) ∙ c.loop-u.invariant
