use mathlib.Core.Path.{sym, ◌∙◌}
use borrow.Author.Tests.{eq-eqb, ne_eqb, not-true, not-false}
use Rattle.table_entries.specs.Says.{change_call, change_fills, usable, unusable, makes_length, makes_stale, makes_plain}
use Rattle.c_store.specs.Reports.{geometry}
use Rattle.table_entries.proofs.change.Goals as goal

pub returns-then-front-ne-ENTRIES : goal.returns-then-front-ne-ENTRIES
returns-then-front-ne-ENTRIES c = makes_length (geometry c.args.size c.args.units) (change_call c.args.call c.args.allowance) c.args.front.entries c.args.front.first c.args.image.now (ne_eqb c.args.front.entries 256 c.if-front-ne-ENTRIES.true) c.refused.result c.refused.ensures

pub returns-then-not-is_usable : goal.returns-then-not-is_usable
returns-then-not-is_usable c = makes_stale (geometry c.args.size c.args.units) (change_call c.args.call c.args.allowance) c.args.front.entries c.args.front.first c.args.image.now (eq-eqb c.args.front.entries 256 c.if-front-ne-ENTRIES.false) (unusable c.args.front.first (change_call c.args.call c.args.allowance) (sym c.is_usable.ensures ∙ not-true _ c.if-not-is_usable.true-raw) (change_fills c.args.call c.args.allowance)) c.stale.result c.stale.ensures

pub returns : goal.returns
returns c = makes_plain (geometry c.args.size c.args.units) (change_call c.args.call c.args.allowance) c.args.front.entries c.args.front.first c.args.image.now (eq-eqb c.args.front.entries 256 c.if-front-ne-ENTRIES.false) (usable c.args.front.first (change_call c.args.call c.args.allowance) (sym c.is_usable.ensures ∙ not-false _ c.if-not-is_usable.false-raw)) c.plain.result c.plain.new.image c.plain.ensures
