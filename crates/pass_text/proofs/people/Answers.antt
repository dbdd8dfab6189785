use Rattle.std.proofs.Common.{◌≡◌, ◌∙◌, ◌-◌, ◌+◌, suc, arith}
use Rattle.rules.specs.Text.{text}
use Rattle.pass_text.specs.People.{people_bad, people_back, people_turn, people_end}
use Rattle.pass_text.proofs.people.Goals as goal

pub returns-in_err-person : goal.returns-in_err-person
unfolding text
returns-in_err-person c =
    let l = c.loop in
    let e : c.args.count - l.counter ≡ suc (c.args.count - (l.counter + 1)) = omega arith in
    c.from_residual.ensures ∙ people_bad c.args.first c.args.second l.on.first l.on.second (c.args.count - (l.counter + 1)) l.before l.rest.now c.in_err-person.ensures ∙ rw (← e) l.invariant

pub returns-then-person-before : goal.returns-then-person-before
unfolding text
returns-then-person-before c =
    let l = c.loop in
    let e : c.args.count - l.counter ≡ suc (c.args.count - (l.counter + 1)) = omega arith in
    people_back c.args.first c.args.second l.on.first l.on.second (c.args.count - (l.counter + 1)) l.before l.rest.now c.in_ok-person.person c.value.new.input.now c.in_ok-person.ensures c.if-person-before.true ∙ rw (← e) l.invariant

pub loop-preserved : goal.loop-preserved
unfolding text
loop-preserved c =
    let l = c.loop in
    let e : c.args.count - l.counter ≡ suc (c.args.count - (l.counter + 1)) = omega arith in
    people_turn c.args.first c.args.second l.on.first l.on.second (c.args.count - (l.counter + 1)) l.before l.rest.now c.in_ok-person.person c.value.new.input.now c.in_ok-person.ensures c.if-person-before.false ∙ rw (← e) l.invariant

pub returns : goal.returns
returns c =
    let l = c.loop in
    let e : c.args.count - l.counter ≡ 0 = omega arith in
    rw (c.then_some.ensures, c.is_empty.ensures) (people_end c.args.first c.args.second l.before l.on.first l.on.second l.rest.now ∙ rw e at l.invariant)
