use Rattle.flash.specs.Laws.{run_on}
use Rattle.step_end.specs.Turns.{clean_up_at}
use Rattle.step_end.proofs.clean_up.Goals as goal

pub returns : goal.returns
unfolding clean_up_at
returns c = run_on _ _ _ c.turns-r.ensures c.become_if.ensures
