use Rattle.rules.specs.Calls as calls
use Rattle.c_store.specs.Reports.{geometry}
use Rattle.c_store.specs.Laws.{reports}
use Rattle.c_store.proofs.us_abort.Goals as goal

pub returns : goal.returns
returns c = reports (geometry c.args.size c.args.units) c.geometry_of-g.result (calls.abort c.args.allowance) c.args.image.now c.abort-a.result c.reported.result c.geometry_of-g.ensures c.abort-a.ensures.0 c.reported.ensures c.abort-a.new.image c.abort-a.ensures.1
