use Rattle.std.proofs.Common.{true, false, sym, ◌∙◌}
use Rattle.counts.specs.Marks.{noted_pending, noted_current}
use Rattle.counts.proofs.noting.Counting.note.Goals as goal

pub returns-then-mark : goal.returns-then-mark
returns-then-mark c = rw (← c.self.view_is, c.in-Pending.is, c.one_more-t-in-Pending.ensures, c.one_more-t-then-mark.ensures) (sym (noted_pending c.self.inside.tally c.self.inside.marks _ c.args.f c.requires true (sym c.if-mark.true ∙ c.mark.ensures.was) c.mark.ensures.after))

pub returns-else-mark : goal.returns-else-mark
returns-else-mark c = rw (← c.self.view_is, c.in-Pending.is, c.one_more-t-in-Pending.ensures) (sym (noted_pending c.self.inside.tally c.self.inside.marks _ c.args.f c.requires false (sym c.if-mark.false ∙ c.mark.ensures.was) c.mark.ensures.after))

pub returns-then-mark-2 : goal.returns-then-mark-2
returns-then-mark-2 c = rw (← c.self.view_is, c.in-Current.is, c.one_more-t-then-mark-2.ensures) (sym (noted_current c.self.inside.tally c.self.inside.marks _ c.args.f c.requires true (sym c.if-mark-2.true ∙ c.mark-in-Current.ensures.was) c.mark-in-Current.ensures.after))

pub returns-else-mark-2 : goal.returns-else-mark-2
returns-else-mark-2 c = rw (← c.self.view_is, c.in-Current.is) (sym (noted_current c.self.inside.tally c.self.inside.marks _ c.args.f c.requires false (sym c.if-mark-2.false ∙ c.mark-in-Current.ensures.was) c.mark-in-Current.ensures.after))
