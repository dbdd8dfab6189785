use Rattle.c_store.specs.Reports.{geometry}
use Rattle.c_table.specs.Shows.{shows_through}
use Rattle.c_table.proofs.us_table_read.Goals as goal

pub returns : goal.returns
returns c = shows_through (geometry c.args.size c.args.units) c.args.file c.args.image.now c.args.table.now c.at-first.result c.at-entry.result c.read.result c.at-first.ensures c.at-entry.ensures c.read.ensures
