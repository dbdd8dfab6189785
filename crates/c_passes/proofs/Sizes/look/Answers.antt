use Rattle.std.proofs.Common.{◌∙◌, arith}
use Rattle.c_store.specs.Reports.{geometry}
use Rattle.c_passes.specs.Shapes.{people_look}
use Rattle.c_passes.specs.Decides.{looks, none_open, one_open, other_open}
use Rattle.c_passes.proofs.Sizes.look.Goals as goal

pub returns-in-7 : goal.returns-in-7
returns-in-7 c =
    let g = geometry c.args.self.size c.args.self.units in
    let s = c.args.image.now in
    let r = c.us_read_open-report.result in
    rw (looks g s c.args.first c.args.second r c.us_read_open-report.ensures, none_open r.number (people_look g s c.args.first c.args.second) c.in-7.is) c.people.ensures

pub returns-in-0 : goal.returns-in-0
returns-in-0 c =
    let g = geometry c.args.self.size c.args.self.units in
    let s = c.args.image.now in
    let r = c.us_read_open-report.result in
    looks g s c.args.first c.args.second r c.us_read_open-report.ensures ∙ one_open r.number (people_look g s c.args.first c.args.second) c.in-0.is

pub returns-in_default : goal.returns-in_default
returns-in_default c =
    let g = geometry c.args.self.size c.args.self.units in
    let s = c.args.image.now in
    let r = c.us_read_open-report.result in
    looks g s c.args.first c.args.second r c.us_read_open-report.ensures
    ∙ other_open r.number (people_look g s c.args.first c.args.second) (λ z. grind (arith, c.in_default)) (λ z. grind (arith, c.in_default)) (λ z. grind (arith, c.in_default))
