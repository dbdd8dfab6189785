use Rattle.std.proofs.Common.{◌∙◌, arith}
use Rattle.c_judge.specs.Laws.{sum_turn, sum_end}
use Rattle.c_judge.proofs.us_sum.Goals as goal

pub loop-byte-preserved : goal.loop-byte-preserved
loop-byte-preserved c = sum_turn c.args.image.now c.loop-byte.byte-index c.loop-byte.total _ (omega arith) (rw c.from-total.ensures) ∙ c.loop-byte.invariant

pub returns : goal.returns
returns c = sum_end c.args.image.now c.loop-byte.byte-index c.loop-byte.total (omega arith) ∙ c.loop-byte.invariant
