use Rattle.std.proofs.Common.{arith, sym, ap, ◌∙◌, append-nil, length, length-append, get_or}
use Rattle.script_looks.specs.Laws.{between, between_short, joined_none, front_turn, front_end}
use Rattle.script_looks.proofs.put_joined.Goals as goal

pub returns-in_default-clause-text : goal.returns-in_default-clause-text
returns-in_default-clause-text g c = rw (sym (joined_none c.args.lines.now c.in_default.ensures.cases)) (sym (append-nil c.args.out.now))

pub loop-b-preserved : goal.loop-b-preserved
loop-b-preserved g c =
    let b = get_or c.in-Some.front.now c.loop-b.b-index 0 in
    (omega (arith, c.loop-b.invariant.0, ap length c.put_between.ensures, length-append c.loop-b.out (between b), between_short b), rw c.put_between.ensures (front_turn c.loop-b.out c.in-Some.front.now c.loop-b.b-index c.loop-b-test.true ∙ c.loop-b.invariant.1))

pub returns-clause-text : goal.returns-clause-text
returns-clause-text g c = rw (c.in-Some.ensures.cases.0) (c.push.ensures ∙ front_end c.args.out.now c.loop-b.out c.in-Some.front.now c.loop-b.b-index c.in-Some.last.now c.loop-b-test.false c.loop-b.invariant.1)
