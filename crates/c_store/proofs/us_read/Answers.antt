use Rattle.rules.specs.Calls as calls
use Rattle.c_store.specs.Reports.{geometry}
use Rattle.c_store.specs.Laws.{shows}
use Rattle.c_store.proofs.us_read.Goals as goal

pub returns : goal.returns
returns c = shows (geometry c.args.size c.args.units) c.geometry_of-g.result (calls.read c.args.file) c.args.image.now c.read-a.result c.reported.result c.geometry_of-g.ensures c.read-a.ensures c.reported.ensures
