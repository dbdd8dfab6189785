use Rattle.std.proofs.Common.{◌-◌, take, drop}
use Rattle.std.proofs.lemmas.Result.{err_from_is_err_and}
use Rattle.rules.specs.Calls.{read}
use Rattle.c_store.specs.Reports.{geometry}
use Rattle.pass_rules.specs.Texts.{register_in}
use Rattle.pass_rules.specs.Give.{read_by, register_look}
use Rattle.c_passes.specs.Looks.{absent_count, counts, refused_count, there_count}
use Rattle.c_passes.proofs.Sizes.count.Goals as goal

pub returns-in_err-start : goal.returns-in_err-start
unfolding register_look
returns-in_err-start c =
    let p = err_from_is_err_and c.from_residual.result c.from_residual.ensures.1 in
    let h = c.in_err-start.ensures in
    rw (p.1, p.2, h.0) (refused_count (read_by (geometry c.args.self.size c.args.self.units) (read 1) c.args.image.now) h.1 h.2)

pub returns-in-Some : goal.returns-in-Some
unfolding register_look
returns-in-Some c =
    let k = c.in-Some.field-0 in
    let x = take (k.end - k.start) (drop k.start c.args.image.now) in
    let h = rw c.in-Some.is at c.in_ok-start.ensures in
    rw (c.ok_or.ensures.value, c.register.ensures, there_count (read_by (geometry c.args.self.size c.args.self.units) (read 1) c.args.image.now) x h.0 h.3) (counts (register_in x))

pub returns-in-None : goal.returns-in-None
unfolding register_look
returns-in-None c =
    absent_count (read_by (geometry c.args.self.size c.args.self.units) (read 1) c.args.image.now) (rw c.in-None.is at c.in_ok-start.ensures)
