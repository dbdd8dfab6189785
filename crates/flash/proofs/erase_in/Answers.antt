use native.Mathlib.Nat.{add-sub_cancel_left}
use Rattle.flash.proofs.Parts.{part_erase, part_length}
use borrow.Author.Rules.{rules}
use Rattle.flash.proofs.erase_in.Goals as goal

pub returns : goal.returns
returns c = rw (c.erase.ensures, add-sub_cancel_left, part_length c.args.image.now c.args.base c.args.size (search rules)) (part_erase c.args.image.now c.args.base c.args.size)
