use Rattle.std.proofs.Common.{sym, ◌∙◌}
use Rattle.table_read.specs.Homes.{home_live, home_old}
use Rattle.table_read.proofs.home_for.Goals as goal

pub returns-in-None : goal.returns-in-None
returns-in-None c =
    let s = c.args.store in
    c.first_in-in-None.ensures ∙ home_old s.g.size s.g.units s.image.now c.args.l (sym c.first_in.ensures ∙ c.in-None.is)

pub returns-in_default : goal.returns-in_default
returns-in_default c =
    let s = c.args.store in
    c.first_in.ensures ∙ home_live s.g.size s.g.units s.image.now c.args.l (λ e. c.in_default.not-None (c.first_in.ensures ∙ e))
