use Rattle.hex_write.specs.Rows.{digit_low, digit_high}
use Rattle.hex_write.proofs.digit.Goals as goal

pub returns-then-v-lt10 : goal.returns-then-v-lt10
returns-then-v-lt10 c = digit_low c.args.v c.if-v-lt10.true

pub returns-else-v-lt10 : goal.returns-else-v-lt10
returns-else-v-lt10 c = digit_high c.args.v c.if-v-lt10.false
