use Rattle.flash.specs.Laws.{run_on}
use Rattle.step_end.specs.Turns.{mend_at}
use Rattle.step_end.proofs.mend.Goals as goal

pub returns : goal.returns
unfolding mend_at
returns c = run_on _ _ _ c.become_if-r.ensures c.become_if.ensures
