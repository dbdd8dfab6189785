use Rattle.std.proofs.Common.{◌≡◌, ◌-◌, false}
use Rattle.pass_rules.specs.Texts.{people_in}
use Rattle.pass_text.specs.Shapes.{found_in}
use Rattle.pass_text.proofs.people.Given as goal

abbrev pub invariant-loop : goal.invariant-loop
invariant-loop l = found_in l.first l.second l.on.first l.on.second (people_in (l.count - l.counter) l.before l.rest) ≡ found_in l.first l.second false false (people_in l.count 0 l.lines)
