use Rattle.rules.specs.Calls as calls
use Rattle.c_store.specs.Reports.{geometry}
use Rattle.c_store.specs.Laws.{reports}
use Rattle.c_store.proofs.us_format.Goals as goal

pub returns : goal.returns
returns c = reports (geometry c.args.size c.args.units) c.geometry_of-g.result (calls.format c.args.allowance) c.args.image.now c.format-a.result c.reported.result c.geometry_of-g.ensures c.format-a.ensures.0 c.reported.ensures c.format-a.new.image c.format-a.ensures.1
