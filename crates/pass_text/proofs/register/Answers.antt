use Rattle.std.proofs.Common.{arith}
use Rattle.std.proofs.lemmas.Bool.Decides.{nat_tests}
use Rattle.rules.specs.Text.{text}
use Rattle.rules.specs.Lists.{is_none}
use Rattle.pass_rules.specs.Texts.{after, register_in}
use Rattle.pass_text.specs.Shapes.{count_of}
use Rattle.pass_text.proofs.register.Goals as goal

pub returns-in_err-count : goal.returns-in_err-count
unfolding text register_in after count_of
returns-in_err-count c = rw c.from_residual.ensures (grind (arith, c.in_err-count.ensures))

pub returns : goal.returns
unfolding text register_in after is_none count_of
returns c = grind (arith, nat_tests, c.in_ok-count.ensures)
