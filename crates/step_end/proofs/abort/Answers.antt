use Rattle.flash.specs.Laws.{run_on}
use Rattle.step_end.specs.Turns.{abort_at}
use Rattle.step_end.proofs.abort.Goals as goal

pub returns : goal.returns
unfolding abort_at
returns c = run_on _ _ _ c.become_if-r.ensures c.become_all.ensures
