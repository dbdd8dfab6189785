use Rattle.rules.specs.Calls as calls
use Rattle.c_store.specs.Reports.{geometry}
use Rattle.c_store.specs.Laws.{reports}
use Rattle.c_store.proofs.us_commit.Goals as goal

pub returns : goal.returns
returns c = reports (geometry c.args.size c.args.units) c.geometry_of-g.result (calls.commit c.args.allowance) c.args.image.now c.commit-a.result c.reported.result c.geometry_of-g.ensures c.commit-a.ensures.0 c.reported.ensures c.commit-a.new.image c.commit-a.ensures.1
