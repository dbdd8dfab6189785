use Rattle.std.proofs.Common.{ap}
use borrow.Author.Tests.{ne_eqb}
use Rattle.laws.specs.Units.{right_geometry}
use Rattle.c_store.specs.Reports.{geometry}
use Rattle.step_mount.specs.Mounting.{there}
use Rattle.table_renew.specs.Renews.{renewed, lays, lays_none, lays_done, homes_known, fresh_housed}
use Rattle.table_renew.proofs.after.Goals as goal

pub returns-then-report-ne0 : goal.returns-then-report-ne0
returns-then-report-ne0 c = lays_none (geometry c.args.size c.args.units) c.args.image.now c.args.report (renewed c.args.report c.new.result.places) (ap (renewed c.args.report) c.new.ensures) (ne_eqb c.args.report.number 0 c.if-report-ne0.true)

pub invariant_of-homes_of : goal.invariant_of-homes_of
invariant_of-homes_of c = record { right = right_geometry c.geometry_of-g.result c.args.image.now (rw c.geometry_of-g.ensures (c.requires c.if-report-ne0.false).right) }

pub unwrap-homes-requires : goal.unwrap-homes-requires
unwrap-homes-requires c = there c.homes_of.result _ c.homes_of.ensures (fresh_housed c.geometry_of-g.result c.args.image.now (rw c.geometry_of-g.ensures (c.requires c.if-report-ne0.false)))

pub list_all-requires : goal.list_all-requires
list_all-requires c =
    let m = rw c.unwrap-homes.ensures at c.homes_of.ensures in
    (homes_known c.geometry_of-g.result c.args.image.now c.unwrap-homes.result.at m.2 (rw c.geometry_of-g.ensures (c.requires c.if-report-ne0.false)), c.new.ensures)

pub returns : goal.returns
returns c =
    let w = renewed c.args.report c.list_all.new.laid.places in
    lays_done (geometry c.args.size c.args.units) c.geometry_of-g.result c.geometry_of-g.ensures c.args.image.now c.args.report w c.if-report-ne0.false (lays c.geometry_of-g.result c.args.image.now c.args.report c.list_all.new.laid.places c.list_all.ensures)
