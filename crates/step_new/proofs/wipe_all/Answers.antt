use native.Mathlib.Omega.{arith}
use mathlib.Core.Path.{refl, sym, ◌∙◌}
use Rattle.rules.specs.Flash.{state}
use native.Mathlib.Nat.{sub-zero, zero-mul}
use Rattle.rules.specs.Settled.{units_of}
use Rattle.laws.specs.Units.{row}
use Rattle.step_new.specs.Laws.{wipe_turn, wipe_behind, wipe_end}
use Rattle.step_new.proofs.wipe_all.Goals as goal

pub loop-u-init : goal.loop-u-init
unfolding units_of
loop-u-init c = (refl, rw (sub-zero, zero-mul))

pub loop-u-preserved : goal.loop-u-preserved
loop-u-preserved c = let e = rw c.base.ensures at c.wipe-r.ensures in (
  wipe_behind c.args.g c.args.image.now c.loop-u.image c.wipe-r.new.image c.loop-u.r c.wipe-r.result c.loop-u.u c.loop-u.invariant.0 e (omega (arith, c.requires.whole, row c.loop-u.u c.args.g.units c.args.g.size (omega arith))),
  wipe_turn c.args.g c.args.image.now c.loop-u.image c.wipe-r.new.image c.loop-u.r c.wipe-r.result c.loop-u.u c.loop-u.invariant.0 e (omega arith) ∙ c.loop-u.invariant.1,
)

pub returns : goal.returns
returns c = sym (wipe_end c.args.g c.args.image.now c.loop-u.u (state c.loop-u.image c.loop-u.r) (omega arith)) ∙ c.loop-u.invariant.1
