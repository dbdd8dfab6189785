use borrow.Author.Tests.{ne_eqb}
use Rattle.c_store.specs.Reports.{geometry}
use Rattle.table_renew.specs.Renews.{refills_length, refills_plain}
use Rattle.table_renew.proofs.refill.Goals as goal

pub returns-then-entries-ne-ENTRIES : goal.returns-then-entries-ne-ENTRIES
returns-then-entries-ne-ENTRIES c = refills_length (geometry c.args.size c.args.units) c.args.call c.args.allowance c.args.entries c.args.image.now (ne_eqb c.args.entries 256 c.if-entries-ne-ENTRIES.true) c.refused.result c.refused.ensures

pub returns : goal.returns
returns c = refills_plain (geometry c.args.size c.args.units) c.args.call c.args.allowance c.args.entries c.args.image.now c.plain.new.image c.plain.result c.if-entries-ne-ENTRIES.false c.plain.ensures.0 c.plain.ensures.1
