use mathlib.Core.Path.{sym, ap, ◌∙◌}
use borrow.Author.Tests.{not-true, not-false}
use Rattle.table_entries.specs.Puts.{in_false, in_true, inside, entry_at}
use Rattle.rules.specs.declared.Geometry.{Geometry}
use Rattle.table_entries.proofs.put_of.Goals as goal

pub returns-then-not-is_in : goal.returns-then-not-is_in
returns-then-not-is_in c = in_false c.args.size c.args.image.now c.args.i c.args.place c.no_file.result (sym c.is_in.ensures ∙ not-true _ c.if-not-is_in.true-raw) c.no_file.ensures

pub file_at-requires : goal.file_at-requires
file_at-requires c = (inside c.args.size c.args.image.now c.args.place (sym c.is_in.ensures ∙ not-false _ c.if-not-is_in.false-raw)).fits

pub entry_at-requires : goal.entry_at-requires
entry_at-requires c = (rw c.geometry_of-g.ensures (inside c.args.size c.args.image.now c.args.place (sym c.is_in.ensures ∙ not-false _ c.if-not-is_in.false-raw)).some_size, (inside c.args.size c.args.image.now c.args.place (sym c.is_in.ensures ∙ not-false _ c.if-not-is_in.false-raw)).fits)

pub returns : goal.returns
returns c = in_true c.args.size c.args.image.now c.args.i c.args.place c.file_at.result c.entry_at.result (sym c.is_in.ensures ∙ not-false _ c.if-not-is_in.false-raw) c.file_at.ensures.0 (c.entry_at.ensures ∙ ap (λ (h : Geometry). entry_at h.size c.args.image.now c.args.place) c.geometry_of-g.ensures)
