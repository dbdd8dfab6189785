use Rattle.step_mount.specs.Moving.{left_in, left_few, word_in, none_run, erase_run, number_few, home_few, asks, move_run}
use mathlib.Core.Path.{◌∙◌}
use Rattle.step_mount.proofs.finish_move.Goals as goal

pub base-to-requires : goal.base-to-requires
base-to-requires c = left_few c.args.g c.args.image.now c.args.look.now c.requires

pub empty-requires : goal.empty-requires
empty-requires c = rw c.base-to.ensures (left_in c.args.g c.args.image.now c.args.look.now c.requires)

pub word-requires : goal.word-requires
word-requires c = rw c.base-to.ensures (word_in c.args.g c.args.image.now c.args.look.now c.requires)

pub bounds-look-number : goal.bounds-look-number
bounds-look-number c = number_few c.args.g c.args.image.now c.args.look.now c.requires c.in-Receiving.is c.from-number.result (c.from-number.ensures ∙ rw c.base-to.ensures at c.word.ensures)

pub base-from-requires : goal.base-from-requires
base-from-requires c = home_few c.args.g c.args.image.now c.args.look.now c.requires c.in-Receiving.is c.from-number.result (c.from-number.ensures ∙ rw c.base-to.ensures at c.word.ensures) c.from.result c.from.ensures

pub move_unit-requires : goal.move_unit-requires
move_unit-requires c = rw (c.base-to.ensures, c.base-from.ensures) (asks c.args.g c.args.image.now c.args.look.now c.requires c.in-Receiving.is c.from-number.result (c.from-number.ensures ∙ rw c.base-to.ensures at c.word.ensures) c.from.result c.from.ensures)

pub returns-in-Spare : goal.returns-in-Spare
returns-in-Spare c = none_run c.args.g c.args.image.now c.args.look.now c.requires c.in-Spare.is c.args.was

pub returns-in-Retired : goal.returns-in-Retired
returns-in-Retired c = erase_run c.args.g c.args.image.now c.args.look.now c.requires c.in-Retired.is c.empty.new.image c.empty.result c.args.was (rw c.base-to.ensures at c.empty.ensures)

pub returns-in-Receiving : goal.returns-in-Receiving
returns-in-Receiving c = move_run c.args.g c.args.image.now c.args.look.now c.requires c.in-Receiving.is c.from-number.result (c.from-number.ensures ∙ rw c.base-to.ensures at c.word.ensures) c.from.result c.from.ensures c.move_unit.new.image c.move_unit.result c.args.was (rw (c.base-to.ensures, c.base-from.ensures) at c.move_unit.ensures)
