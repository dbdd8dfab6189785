use Rattle.rules.specs.Calls as calls
use Rattle.c_store.specs.Reports.{geometry}
use Rattle.c_store.specs.Laws.{reports}
use Rattle.c_store.proofs.us_mount.Goals as goal

pub returns : goal.returns
returns c = reports (geometry c.args.size c.args.units) c.geometry_of-g.result (calls.mount c.args.allowance) c.args.image.now c.mount-a.result c.reported.result c.geometry_of-g.ensures c.mount-a.ensures.0 c.reported.ensures c.mount-a.new.image c.mount-a.ensures.1
