use Rattle.std.proofs.Common.{refl}
use Rattle.hex_input.specs.Texts.{long_refused, headed_or}
use Rattle.hex_input.proofs.headed.Goals as goal

pub returns-then-most-input : goal.returns-then-most-input
returns-then-most-input c = (refl, long_refused c.args.most c.args.input.now.now c.if-most-input.true)

pub returns : goal.returns
returns c = rw c.ok_or.ensures.value (headed_or c.args.most c.args.input.now.now _ c.header.result c.if-most-input.false c.header.ensures)
