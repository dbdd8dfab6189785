use Rattle.rules.specs.Calls as calls
use Rattle.rules.specs.declared.Rule.TheVariants.{Tightest}
use Rattle.c_store.specs.Reports.{geometry}
use Rattle.c_store.specs.Laws.{reports}
use Rattle.c_store.proofs.us_write.Goals as goal

pub returns : goal.returns
returns c = reports (geometry c.args.size c.args.units) c.geometry_of-g.result (calls.write Tightest c.args.file c.args.content.now c.args.allowance) c.args.image.now c.write-a.result c.reported.result c.geometry_of-g.ensures c.write-a.ensures.0 c.reported.ensures c.write-a.new.image c.write-a.ensures.1
