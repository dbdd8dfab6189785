use Rattle.std.proofs.Common.{arith, sym, ap, ◌∙◌, ◌∷◌, [], length, length-append}
use Rattle.script_answers.specs.Laws.{hex_turn, hex_end}
use Rattle.script_answers.proofs.put_hex.Goals as goal

pub loop-b-preserved : goal.loop-b-preserved
loop-b-preserved g c =
    (omega (arith, c.loop-b.invariant.0, ap length c.push.ensures, ap length c.push-in-loop-b.ensures, length-append c.loop-b.out (c.digit.result ∷ []), length-append c.push.new.self (c.digit-in-loop-b.result ∷ [])), rw (c.push-in-loop-b.ensures, c.push.ensures) (hex_turn c.loop-b.out c.args.content.now c.loop-b.b-index c.digit.result c.digit-in-loop-b.result c.loop-b-test.true c.digit.ensures c.digit-in-loop-b.ensures ∙ c.loop-b.invariant.1))

pub returns : goal.returns
returns g c = sym (hex_end c.loop-b.out c.args.content.now c.loop-b.b-index c.loop-b-test.false) ∙ c.loop-b.invariant.1
