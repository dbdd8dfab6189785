use Rattle.flash.specs.Laws.{run_on}
use Rattle.step_new.proofs.store_in.Goals as goal

pub returns : goal.returns
returns c = run_on _ _ _ c.fill_in-r.ensures c.become_if.ensures
