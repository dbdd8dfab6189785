use Rattle.hex_lines.specs.Digits.{not_high, not_low, pair_given}
use Rattle.hex_lines.proofs.byte_of.Goals as goal

pub returns-in_err-high : goal.returns-in_err-high
returns-in_err-high c = rw c.from_residual.ensures (not_high c.args.high c.args.low (rw c.from.ensures at c.in_err-high.ensures.value))

pub returns-in_err-low : goal.returns-in_err-low
returns-in_err-low c = rw c.from_residual-in_err-low.ensures (not_low c.args.high c.args.low (rw c.from-2.ensures at c.in_err-low.ensures.value))

pub returns : goal.returns
returns c = pair_given c.args.high c.args.low c.in_ok-high.high c.in_ok-low.low (rw c.from.ensures at c.in_ok-high.ensures.value) (rw c.from-2.ensures at c.in_ok-low.ensures.value)
