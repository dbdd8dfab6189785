use Rattle.rules.specs.Calls as calls
use Rattle.c_store.specs.Reports.{geometry}
use Rattle.c_store.specs.Laws.{shows}
use Rattle.c_store.proofs.us_read_at.Goals as goal

pub returns : goal.returns
returns c = shows (geometry c.args.size c.args.units) c.geometry_of-g.result (calls.read_at c.args.unit c.args.position) c.args.image.now c.read_at-a.result c.reported.result c.geometry_of-g.ensures c.read_at-a.ensures c.reported.ensures
