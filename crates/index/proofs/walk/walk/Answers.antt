use Rattle.std.proofs.Common.{◌<◌, ◌-◌, sym, ◌∙◌, arith}
use Rattle.laws.specs.Units.{right_geometry}
use Rattle.index.specs.Walk.{homes_met, homes_turn, homes_end}
use Rattle.index.proofs.walk.walk.Goals as goal

pub overflow_sub-l-end : goal.overflow_sub-l-end
overflow_sub-l-end g c = let o = right_geometry c.args.g c.args.image.now c.requires.right in omega arith

pub loop-l-init : goal.loop-l-init
loop-l-init g c = homes_met g.V.Visitor.met c.args.g c.args.image.now c.args.home c.requires c.args.visitor.now

pub bounds-home-l : goal.bounds-home-l
bounds-home-l g c = let o = right_geometry c.args.g c.args.image.now c.requires.right in omega arith

pub base-requires : goal.base-requires
base-requires g c =
    let o = right_geometry c.args.g c.args.image.now c.requires.right in
    let b : c.from-n.result < c.args.g.units = rw c.from-n.ensures (c.requires.below c.loop-l.l (omega arith)) in
    (omega arith, omega arith)

pub walk_unit-requires : goal.walk_unit-requires
walk_unit-requires g c = (omega arith, omega arith, omega (arith, c.base.ensures))

pub loop-l-preserved : goal.loop-l-preserved
loop-l-preserved g c =
    rw (c.walk_unit.ensures, c.base.ensures, c.from-n.ensures)
    (sym (homes_turn g.V.Visitor.met c.args.g c.args.image.now c.args.home (c.args.g.units - 1) c.loop-l.l c.loop-l.visitor (omega arith) c.unit_at.result.now c.unit_at.ensures.long (rw (← c.from-n.ensures) c.unit_at.ensures.unit))
    ∙ c.loop-l.invariant)

pub returns : goal.returns
returns g c =
    sym (homes_end g.V.Visitor.met c.args.g c.args.image.now c.args.home (c.args.g.units - 1) c.loop-l.l c.loop-l.visitor (omega arith))
    ∙ c.loop-l.invariant
