use Rattle.std.proofs.Common.{◌∙◌, sym, arith}
use Rattle.rules.specs.Calls.{read}
use Rattle.c_store.specs.Reports.{geometry}
use Rattle.c_passes.specs.Looks.{part_content, part_inside, shows_number}
use Rattle.c_passes.proofs.Sizes.read.Goals as goal

pub overflow_add-result : goal.overflow_add-result
overflow_add-result c =
    let s = c.args.self in
    omega (arith, part_inside s.size s.units c.args.image.now c.args.file c.us_read-report.result c.us_read-report.ensures)

pub returns-in-0 : goal.returns-in-0
returns-in-0 c =
    let s = c.args.self in
    let r = c.us_read-report in (
      sym (shows_number (geometry s.size s.units) (read c.args.file) c.args.image.now r.result r.ensures) ∙ c.in-0.is,
      omega arith,
      part_inside s.size s.units c.args.image.now c.args.file r.result r.ensures,
      sym (part_content s.size s.units c.args.image.now c.args.file r.result r.ensures),
    )

pub returns-in-9 : goal.returns-in-9
returns-in-9 c =
    let s = c.args.self in
    sym (shows_number (geometry s.size s.units) (read c.args.file) c.args.image.now c.us_read-report.result c.us_read-report.ensures) ∙ c.in-9.is

pub returns-in_default : goal.returns-in_default
returns-in_default c =
    let s = c.args.self in
    let e = shows_number (geometry s.size s.units) (read c.args.file) c.args.image.now c.us_read-report.result c.us_read-report.ensures in
    (e, λ z. grind (arith, c.in_default), λ z. grind (arith, c.in_default))
