use Rattle.flash.specs.Laws.{run_on}
use Rattle.rules.specs.Jobs.{format_job}
use Rattle.step_new.proofs.format.Goals as goal

pub returns : goal.returns
unfolding format_job
returns c = run_on _ _ _ c.wipe_all-r.ensures c.label_all.ensures
