use Rattle.c_store.specs.Reports.{geometry}
use Rattle.pass_rules.specs.Give.{staff_look}
use Rattle.c_passes.specs.Decides.{staff_found, staff_refused}
use Rattle.c_passes.proofs.us_staff.Goals as goal

pub returns-in-Ok : goal.returns-in-Ok
returns-in-Ok c = staff_found 0 0 (staff_look (geometry c.args.size c.args.units) c.args.image.now) c.in-Ok.ensures.0 c.in-Ok.roster c.in-Ok.ensures.1 c.in-Ok.ensures.2

pub returns-in-Err : goal.returns-in-Err
returns-in-Err c = rw c.number.ensures (staff_refused (staff_look (geometry c.args.size c.args.units) c.args.image.now) _ c.in-Err.ensures)
