use Rattle.std.proofs.Common.{arith}
use Rattle.rules.specs.Text.{number_in}
use Rattle.text.proofs.line.Goals as goal

pub returns-then-not-skip : goal.returns-then-not-skip
unfolding number_in
returns-then-not-skip c = λ p e. grind (arith, c.skip.ensures.rest)

pub returns : goal.returns
unfolding number_in
returns c = grind (arith, c.skip.ensures.rest)
