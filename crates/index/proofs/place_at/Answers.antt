use Rattle.std.proofs.Common.{◌<◌, ◌-◌, sym, ◌∙◌, arith}
use borrow.Author.Tests.{ltb-true, ltb-false}
use Rattle.index.specs.Handles.{at_home, at_none}
use Rattle.laws.specs.Units.{right_geometry}
use Rattle.index.proofs.place_at.Goals as goal

pub check-requires : goal.check-requires
check-requires c = let o = right_geometry c.args.g c.args.image.now c.requires.right in omega arith

pub returns-then-not-check : goal.returns-then-not-check
returns-then-not-check c = sym (at_none c.args.g c.args.image.now c.args.home c.requires c.args.at.unit c.args.at.position (ltb-false c.args.at.unit (c.args.g.units - 1) (sym c.check.ensures ∙ c.if-not-check.true)))

pub bounds-home-at : goal.bounds-home-at
bounds-home-at c =
    let l = ltb-true c.args.at.unit (c.args.g.units - 1) (sym c.check.ensures ∙ c.if-not-check.false) in
    let o = right_geometry c.args.g c.args.image.now c.requires.right in
    omega arith

pub base-requires : goal.base-requires
base-requires c =
    let l = ltb-true c.args.at.unit (c.args.g.units - 1) (sym c.check.ensures ∙ c.if-not-check.false) in
    let o = right_geometry c.args.g c.args.image.now c.requires.right in
    let b : c.from-n.result < c.args.g.units = rw c.from-n.ensures (c.requires.below c.args.at.unit l) in
    (omega arith, omega arith)

pub current_in-requires : goal.current_in-requires
current_in-requires c = (omega arith, omega arith, omega (arith, c.base.ensures))

pub returns : goal.returns
returns c =
    let l = ltb-true c.args.at.unit (c.args.g.units - 1) (sym c.check.ensures ∙ c.if-not-check.false) in
    c.current_in.ensures
    ∙ rw (c.unit_at.ensures.unit, c.base.ensures, c.from-n.ensures) (sym (at_home c.args.g c.args.image.now c.args.home c.requires c.args.at.unit c.args.at.position l))
