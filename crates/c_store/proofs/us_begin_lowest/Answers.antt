use Rattle.rules.specs.Calls as calls
use Rattle.rules.specs.declared.Rule.TheVariants.{Lowest}
use Rattle.c_store.specs.Reports.{geometry}
use Rattle.c_store.specs.Laws.{reports}
use Rattle.c_store.proofs.us_begin_lowest.Goals as goal

pub returns : goal.returns
returns c = reports (geometry c.args.size c.args.units) c.geometry_of-g.result (calls.begin Lowest c.args.allowance) c.args.image.now c.begin-a.result c.reported.result c.geometry_of-g.ensures c.begin-a.ensures.0 c.reported.ensures c.begin-a.new.image c.begin-a.ensures.1
