use mathlib.Core.Path.{refl, sym, ap, subst, ◌∙◌}
use borrow.Author.Tests.{eq-eqb, ne_eqb, not-true, not-false}
use Rattle.table_renew.specs.Renews.{renewed, Mends, renews_none, renews_mended, not_done, stale_not_done, guard_not_done, bad_geometry_not_done, guard_reports}
use Rattle.c_store.specs.Reports.{geometry}
use Rattle.table_entries.specs.Says.{makes_length, makes_stale, makes_plain, usable, unusable}
use Rattle.rules.specs.Calls.{commit}
use Rattle.rules.specs.Table.{fills}
use Rattle.rules.specs.declared.NotDone.TheVariants.{BadGeometry}
use Rattle.rules.specs.declared.Geometry.{Geometry}
use Rattle.call_look.specs.Guards.{commits}
use Rattle.table_renew.proofs.commit.Goals as goal

pub returns-then-entries-ne-ENTRIES : goal.returns-then-entries-ne-ENTRIES
returns-then-entries-ne-ENTRIES c = renews_none (geometry c.args.size c.args.units) (commit c.args.allowance) c.args.entries c.args.first c.args.image.now c.args.image.now c.refused.result (renewed c.refused.result c.new.result.places) (ap (renewed c.refused.result) c.new.ensures) (not_done BadGeometry c.refused.result c.refused.ensures bad_geometry_not_done) (makes_length (geometry c.args.size c.args.units) (commit c.args.allowance) c.args.entries c.args.first c.args.image.now (ne_eqb c.args.entries 256 c.if-entries-ne-ENTRIES.true) c.refused.result c.refused.ensures)

pub returns-then-not-is_usable : goal.returns-then-not-is_usable
unfolding fills
returns-then-not-is_usable c = renews_none (geometry c.args.size c.args.units) (commit c.args.allowance) c.args.entries c.args.first c.args.image.now c.args.image.now c.stale.result (renewed c.stale.result c.new.result.places) (ap (renewed c.stale.result) c.new.ensures) (stale_not_done (geometry c.args.size c.args.units) c.args.image.now c.stale.result c.stale.ensures) (makes_stale (geometry c.args.size c.args.units) (commit c.args.allowance) c.args.entries c.args.first c.args.image.now (eq-eqb c.args.entries 256 c.if-entries-ne-ENTRIES.false) (unusable c.args.first (commit c.args.allowance) (sym c.is_usable.ensures ∙ not-true _ c.if-not-is_usable.true-raw) refl) c.stale.result c.stale.ensures)

pub returns-in-Err : goal.returns-in-Err
returns-in-Err c =
    renews_none (geometry c.args.size c.args.units) (commit c.args.allowance) c.args.entries c.args.first c.args.image.now c.args.image.now c.refused-in-Err.result (renewed c.refused-in-Err.result c.new.result.places) (ap (renewed c.refused-in-Err.result) c.new.ensures)
    (not_done _ c.refused-in-Err.result c.refused-in-Err.ensures (guard_not_done c.in-Err.ensures c.in-Err.reason refl))
    (makes_plain (geometry c.args.size c.args.units) (commit c.args.allowance) c.args.entries c.args.first c.args.image.now (eq-eqb c.args.entries 256 c.if-entries-ne-ENTRIES.false)
    (usable c.args.first (commit c.args.allowance) (sym c.is_usable.ensures ∙ not-false _ c.if-not-is_usable.false-raw)) c.refused-in-Err.result c.args.image.now
    (guard_reports c.geometry_of-g.ensures c.in-Err.ensures _ (commits c.args.allowance) c.in-Err.reason refl c.refused-in-Err.result c.refused-in-Err.ensures))

pub commit_settled-requires : goal.commit_settled-requires
commit_settled-requires c = ((c.in-Ok.ensures.passed c.in-Ok.look refl).known, c.new.ensures)

pub returns-in-Ok : goal.returns-in-Ok
returns-in-Ok c = renews_mended (geometry c.args.size c.args.units) c.args.allowance c.args.entries c.args.first c.args.image.now c.commit_settled.new.image (renewed c.commit_settled.result c.commit_settled.new.laid.places) (eq-eqb c.args.entries 256 c.if-entries-ne-ENTRIES.false) (sym c.is_usable.ensures ∙ not-false _ c.if-not-is_usable.false-raw) (subst (λ (h : Geometry). Mends h c.args.allowance c.args.image.now (renewed c.commit_settled.result c.commit_settled.new.laid.places) c.commit_settled.new.image) c.geometry_of-g.ensures c.commit_settled.ensures)
