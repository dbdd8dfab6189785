use Rattle.table_renew.specs.Renews.{renewed}
use Rattle.c_table.specs.Renewing.{fill_through_lem}
use Rattle.c_table.proofs.us_table_fill.Goals as goal

pub returns : goal.returns
returns c = fill_through_lem c.args.size c.args.units c.args.image.now c.args.table.now (renewed c.fill-r.result c.fill-r.new.laid.places) c.clear.new.t c.lay_all.new.t c.fill-r.ensures c.clear.ensures (rw c.as_slice.ensures.places at c.lay_all.ensures)
