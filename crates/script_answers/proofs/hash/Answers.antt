use Rattle.std.proofs.Common.{arith, refl, sym, ◌∙◌}
use Rattle.script_answers.specs.Result.{hash_of}
use Rattle.script_answers.specs.Laws.{hash_end, hash_turn}
use Rattle.script_answers.proofs.hash.Goals as goal

pub loop-b-init : goal.loop-b-init
unfolding hash_of
loop-b-init c = (omega arith, refl)

pub loop-b-preserved : goal.loop-b-preserved
loop-b-preserved c = (omega arith, rw c.from.ensures (hash_turn c.args.image.now c.loop-b.h c.loop-b.b-index c.loop-b-test.true) ∙ c.loop-b.invariant.1)

pub returns-clause-value : goal.returns-clause-value
returns-clause-value c = sym (hash_end c.args.image.now c.loop-b.h c.loop-b.b-index c.loop-b-test.false) ∙ c.loop-b.invariant.1
