use Rattle.std.proofs.Common.{arith}
use Rattle.std.proofs.lemmas.Bool.Decides.{nat_tests}
use Rattle.rules.specs.Text.{text}
use Rattle.pass_rules.specs.Texts.{line_in, value_in, within, zero_or}
use Rattle.pass_text.proofs.value.Goals as goal

pub returns-then-not-skip : goal.returns-then-not-skip
unfolding line_in value_in
returns-then-not-skip c = grind (arith, c.skip.ensures.rest)

pub returns-then-skip : goal.returns-then-skip
unfolding line_in value_in text within zero_or
returns-then-skip c = grind (arith, nat_tests, c.skip.ensures.rest, c.skip-2.ensures.rest)

pub returns-in_err-value : goal.returns-in_err-value
unfolding line_in value_in text within zero_or
returns-in_err-value c = grind (arith, nat_tests, c.skip.ensures.rest, c.skip-2.ensures.rest, c.skip-2.ensures.same, c.in_err-value.ensures)

pub returns : goal.returns
unfolding line_in value_in text within zero_or
returns c = grind (arith, nat_tests, c.skip.ensures.rest, c.skip-2.ensures.rest, c.skip-2.ensures.same, c.in_ok-value.ensures.is)
