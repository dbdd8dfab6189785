use native.Mathlib.Nat.{add-sub_cancel_left}
use Rattle.flash.proofs.Parts.{part_program}
use borrow.Author.Rules.{rules}
use Rattle.flash.proofs.program_in.Goals as goal

pub returns : goal.returns
returns c = rw (c.program.ensures, add-sub_cancel_left) (part_program c.args.image.now c.args.base c.args.size c.args.at c.args.value (search rules) (search rules))
