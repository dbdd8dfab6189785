use mathlib.Core.Path.{refl, ap}
use borrow.Author.Tests.{eq-eqb, ne_eqb}
use Rattle.rules.specs.Answers.{origin}
use Rattle.table_renew.specs.Renews.{renewed, lays, finished, fills_length, fills_refused, fills_done}
use Rattle.c_store.specs.Reports.{geometry}
use Rattle.table_renew.proofs.fill.Goals as goal

pub returns-then-entries-ne-ENTRIES : goal.returns-then-entries-ne-ENTRIES
returns-then-entries-ne-ENTRIES c = fills_length (geometry c.args.size c.args.units) c.args.entries c.args.image.now (ne_eqb c.args.entries 256 c.if-entries-ne-ENTRIES.true) c.refused.result (renewed c.refused.result c.new.result.places) (ap (renewed c.refused.result) c.new.ensures) c.refused.ensures

pub returns-in-Err : goal.returns-in-Err
returns-in-Err c = fills_refused c.geometry_of-g.ensures c.args.entries (eq-eqb c.args.entries 256 c.if-entries-ne-ENTRIES.false) c.in-Err.ensures c.in-Err.reason refl c.refused-in-Err.result (renewed c.refused-in-Err.result c.new.result.places) (ap (renewed c.refused-in-Err.result) c.new.ensures) c.refused-in-Err.ensures

pub list_all-requires : goal.list_all-requires
list_all-requires c = ((c.in-Ok.ensures.passed c.in-Ok.look refl).known, c.new.ensures)

pub returns-in-Ok : goal.returns-in-Ok
unfolding finished origin
returns-in-Ok c = fills_done c.geometry_of-g.ensures c.args.entries (eq-eqb c.args.entries 256 c.if-entries-ne-ENTRIES.false) c.in-Ok.ensures c.in-Ok.look refl c.reported.result (renewed c.reported.result c.list_all.new.laid.places) c.reported.ensures (lays c.geometry_of-g.result c.args.image.now c.reported.result c.list_all.new.laid.places c.list_all.ensures)
