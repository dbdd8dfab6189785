use Rattle.c_store.specs.Reports.{geometry}
use Rattle.pass_rules.specs.Give.{register_look}
use Rattle.c_passes.specs.Decides.{register_found, register_refused}
use Rattle.c_passes.proofs.us_register.Goals as goal

pub returns-in-Ok : goal.returns-in-Ok
returns-in-Ok c = register_found (register_look (geometry c.args.size c.args.units) c.args.image.now) c.in-Ok.count c.in-Ok.ensures

pub returns-in-Err : goal.returns-in-Err
returns-in-Err c = rw c.number.ensures (register_refused (register_look (geometry c.args.size c.args.units) c.args.image.now) _ c.in-Err.ensures)
