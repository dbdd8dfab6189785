use Rattle.std.proofs.Common.{not, eqb, get_or, set, List, ℕ, ap, ◌∙◌}
use Rattle.marks.specs.Bits.{tested, marking}
use Rattle.marks.proofs.Marks.mark.Goals as goal

pub returns-clause-was : goal.returns-clause-was
returns-clause-was g c = ap not (tested c.self.inside.bytes c.args.place) ∙ ap (λ (s : List ℕ). not (eqb (get_or s c.args.place 0) 0)) c.self.view_is

pub returns-clause-after : goal.returns-clause-after
returns-clause-after g c = marking c.self.inside.bytes c.args.place ∙ ap (λ (s : List ℕ). set s c.args.place 1) c.self.view_is
