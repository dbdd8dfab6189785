use mathlib.Core.Path.{refl, sym, ◌∙◌}
use Prim.Native.Nat.{◌%◌}
use Rattle.table_entries.specs.Puts.{entry_mark, entry_made}
use Rattle.index.specs.Shapes.{base_at}
use Rattle.table_entries.proofs.entry_at.Goals as goal

pub returns-then-is_mark_at : goal.returns-then-is_mark_at
returns-then-is_mark_at c = c.no_file.ensures ∙ sym (entry_mark c.args.g.size c.args.image.now c.args.place (sym c.is_mark_at.ensures ∙ c.if-is_mark_at.true))

pub returns : goal.returns
unfolding base_at
returns c = entry_made c.args.g.size c.args.image.now c.args.place c.base_of-base.result c.word-number.result (c.word-number.result % 256) c.position_of.result c.word.result (sym c.is_mark_at.ensures ∙ c.if-is_mark_at.false) c.base_of-base.ensures.0 c.word-number.ensures refl c.position_of.ensures (rw (← c.from.ensures) c.word.ensures)
