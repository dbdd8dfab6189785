use Rattle.flash.specs.Laws.{run_last}
use Rattle.rules.specs.Jobs.{emptied}
use Rattle.step_move.proofs.empty.Goals as goal

pub returns : goal.returns
unfolding emptied
returns c = run_last _ _ c.erase_on.ensures
