use Rattle.std.proofs.Common.{arith}
use Rattle.rules.specs.Text.{text, line}
use Rattle.text.proofs.header.Goals as goal

pub returns-in_err-size : goal.returns-in_err-size
unfolding line text
returns-in_err-size c =
    rw c.from_residual.ensures (λ p q a b l. absurd (omega (arith, c.in_err-size.ensures p a)))

pub returns-in_err-units : goal.returns-in_err-units
unfolding line text
returns-in_err-units c =
    rw c.from_residual-in_err-units.ensures (λ p q a b l. c.in_err-units.ensures q (grind (arith, c.in_ok-size.ensures.is)))

pub returns : goal.returns
unfolding line text
returns c =
    record {
      second = c.line.new.input.now;
      small = c.in_ok-size.ensures.small;
      few = c.in_ok-units.ensures.small;
      size = c.in_ok-size.ensures.is;
      units = c.in_ok-units.ensures.is;
    }
