use Rattle.std.proofs.Common.{◌∙◌, ◌-◌, sym, take, drop}
use Rattle.std.proofs.lemmas.Result.{err_from_is_err_and}
use Rattle.rules.specs.Calls.{read}
use Rattle.c_store.specs.Reports.{geometry}
use Rattle.pass_rules.specs.Texts.{staff_in}
use Rattle.pass_rules.specs.Give.{read_by, staff_look}
use Rattle.c_passes.specs.Looks.{absent_list, bad_list, empty_list, found_list, refused_list, there_list}
use Rattle.c_passes.proofs.Sizes.list.Goals as goal

pub returns-in_err-start : goal.returns-in_err-start
unfolding staff_look
returns-in_err-start c =
    let p = err_from_is_err_and c.from_residual.result c.from_residual.ensures.1 in
    let h = c.in_err-start.ensures in
    rw (p.1, p.2, h.0) (refused_list (read_by (geometry c.args.self.size c.args.self.units) (read 0) c.args.image.now) h.1 h.2)

pub returns-in_default : goal.returns-in_default
unfolding staff_look
returns-in_default c =
    absent_list (read_by (geometry c.args.self.size c.args.self.units) (read 0) c.args.image.now) (rw c.in_default.is at c.in_ok-start.ensures)

pub returns-in_default-staff : goal.returns-in_default-staff
unfolding staff_look
returns-in_default-staff c =
    let k = c.in-Some.field-0 in
    let x = take (k.end - k.start) (drop k.start c.args.image.now) in
    let h = rw c.in-Some.is at c.in_ok-start.ensures in
    there_list (read_by (geometry c.args.self.size c.args.self.units) (read 0) c.args.image.now) x h.0 h.3
    ∙ bad_list c.args.first c.args.second (staff_in x) (sym c.staff.ensures ∙ c.in_default-staff.is)

pub returns-then-roster-eq0 : goal.returns-then-roster-eq0
unfolding staff_look
returns-then-roster-eq0 c =
    let k = c.in-Some.field-0 in
    let x = take (k.end - k.start) (drop k.start c.args.image.now) in
    let h = rw c.in-Some.is at c.in_ok-start.ensures in
    there_list (read_by (geometry c.args.self.size c.args.self.units) (read 0) c.args.image.now) x h.0 h.3
    ∙ empty_list c.args.first c.args.second c.in-Some-staff.roster (staff_in x) (sym c.staff.ensures ∙ c.in-Some-staff.is) c.if-roster-eq0.true

pub returns : goal.returns
unfolding staff_look
returns c =
    let k = c.in-Some.field-0 in
    let x = take (k.end - k.start) (drop k.start c.args.image.now) in
    let h = rw c.in-Some.is at c.in_ok-start.ensures in
    rw (there_list (read_by (geometry c.args.self.size c.args.self.units) (read 0) c.args.image.now) x h.0 h.3)
    (found_list c.args.first c.args.second c.in-Some-staff.roster (staff_in x) (sym c.staff.ensures ∙ c.in-Some-staff.is) c.if-roster-eq0.false)
