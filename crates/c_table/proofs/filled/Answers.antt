use Rattle.table_renew.specs.Renews.{renewed}
use Rattle.c_table.specs.Renewing.{refill_through}
use Rattle.c_table.proofs.filled.Goals as goal

pub returns : goal.returns
returns c = refill_through c.args.size c.args.units c.args.allowance c.args.image.now c.args.table.now c.refill-r.result (renewed c.refill-r.result c.after.new.laid.places) c.refill-r.new.image c.clear.new.t c.lay_all.new.t c.stop.new.t c.args.call c.refill-r.ensures c.after.ensures c.clear.ensures (rw c.as_slice.ensures.places at c.lay_all.ensures) c.stop.ensures
