use Rattle.flash.specs.Laws.{run_on}
use Rattle.step_end.proofs.replace.Goals as goal

pub returns : goal.returns
returns c = run_on _ _ _ c.become_if-r.ensures c.become_if.ensures
