use Rattle.table_renew.specs.Renews.{renewed}
use Rattle.c_table.specs.Renewing.{commit_through}
use Rattle.c_table.proofs.us_table_commit.Goals as goal

pub returns : goal.returns
returns c = commit_through c.args.size c.args.units c.args.allowance c.args.image.now c.args.table.now c.at-first.result (renewed c.commit-r.result c.commit-r.new.laid.places) c.commit-r.new.image c.lay_all.new.t c.stop.new.t c.at-first.ensures c.commit-r.ensures (rw c.as_slice.ensures.places at c.lay_all.ensures) c.stop.ensures
