use Rattle.std.proofs.Common.{arith}
use Rattle.rules.specs.Text.{text}
use Rattle.pass_rules.specs.Texts.{after, staff_in, staff_of as staff_by}
use Rattle.pass_text.specs.Shapes.{found_in, staff_of}
use Rattle.pass_text.specs.People.{people_many}
use Rattle.pass_text.proofs.staff.Goals as goal

pub returns-in_err-night : goal.returns-in_err-night
unfolding text staff_in after staff_of
returns-in_err-night c = rw c.from_residual.ensures (grind (arith, c.in_err-night.ensures))

pub returns-in_err-zone : goal.returns-in_err-zone
unfolding text staff_in after staff_of
returns-in_err-zone c = rw c.from_residual-in_err-zone.ensures (grind (arith, c.in_ok-night.ensures, c.in_err-zone.ensures))

pub returns-in_err-count : goal.returns-in_err-count
unfolding text staff_in after staff_of
returns-in_err-count c = rw c.from_residual-in_err-count.ensures (grind (arith, c.in_ok-night.ensures, c.in_ok-zone.ensures, c.in_err-count.ensures))

pub returns-in_err-on : goal.returns-in_err-on
unfolding text staff_in after staff_of staff_by found_in
returns-in_err-on c = rw c.from_residual-in_err-on.ensures (grind (arith, c.in_ok-night.ensures, c.in_ok-zone.ensures, c.in_ok-count.ensures, c.people.ensures))

pub returns : goal.returns
unfolding text staff_in after staff_of staff_by found_in
returns c = grind (arith, c.in_ok-night.ensures, c.in_ok-zone.ensures, c.in_ok-count.ensures, c.people.ensures, people_many c.in_ok-count.count 0 c.value-3.new.input.now)
