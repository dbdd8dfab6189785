use Rattle.c_store.specs.Reports.{geometry}
use Rattle.c_table.specs.Through.{change_through}
use Rattle.c_table.proofs.changed.Goals as goal

pub returns : goal.returns
returns c = change_through (geometry c.args.size c.args.units) c.args.call c.args.allowance c.args.image.now c.args.table.now c.at.result c.change-r.result c.change-r.new.image c.stop.new.t c.at.ensures c.change-r.ensures c.stop.ensures
