use Rattle.std.proofs.Common.{arith, sym, ◌∙◌, ◌+◌, ◌-◌, ◌*◌, length, drop, take_all, length-drop}
use Rattle.std.proofs.lemmas.List.{at_drop_more, at_drop_all}
use Rattle.std.proofs.lemmas.Bool.Decides.{nat_tests}
use Rattle.rules.specs.Text.{number_from, is_digit}
use Rattle.text.specs.Says.{from_feed, number_grows}
use Rattle.text.proofs.number_from.Goals as goal

pub loop-i-preserved : goal.loop-i-preserved
unfolding number_from is_digit
loop-i-preserved c = (omega arith, grind (arith, nat_tests, at_drop_more (number_from c.loop-i.value) c.args.input.now.now c.loop-i.i 0))

pub returns-in-10 : goal.returns-in-10
returns-in-10 c =
    let s = c.args.input.now.now in
    let i = c.loop-i.i in
    record {
      small = c.loop-i.invariant.0;
      is = rw (take_all (length s - (i + 1)) (drop (i + 1) s) (omega (arith, length-drop (i + 1) s))) (sym c.loop-i.invariant.1 ∙ from_feed c.loop-i.value s i c.loop-i-test.true c.in-10.is);
    }

pub returns-in_default : goal.returns-in_default
unfolding number_from is_digit
returns-in_default c = λ p e. grind (arith, nat_tests, c.in_default, at_drop_more (number_from c.loop-i.value) c.args.input.now.now c.loop-i.i 0)

pub returns-in_default-2 : goal.returns-in_default-2
unfolding number_from is_digit
returns-in_default-2 c = λ p e. grind (arith, nat_tests, c.in_default, at_drop_more (number_from c.loop-i.value) c.args.input.now.now c.loop-i.i 0)

pub returns-then-value-gt65536 : goal.returns-then-value-gt65536
unfolding number_from is_digit
returns-then-value-gt65536 c = λ p e. grind (arith, nat_tests, number_grows (10 * c.loop-i.value + c.from.result) (drop (c.loop-i.i + 1) c.args.input.now.now) p, at_drop_more (number_from c.loop-i.value) c.args.input.now.now c.loop-i.i 0)

pub returns : goal.returns
unfolding number_from
returns c = λ p e. grind (arith, nat_tests, at_drop_all (number_from c.loop-i.value) c.args.input.now.now c.loop-i.i)
