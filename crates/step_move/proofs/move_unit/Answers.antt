use Rattle.flash.specs.Laws.{run_by, run_on}
use Rattle.rules.specs.Flash.{programs}
use Rattle.rules.specs.Copy.{due}
use Rattle.rules.specs.Jobs.{move, label, seal, emptied, after_erase}
use Rattle.rules.specs.Settled.{physical}
use Rattle.step_move.proofs.move_unit.Goals as goal

pub returns : goal.returns
unfolding move label due programs seal emptied after_erase physical
returns c = run_on _ _ _ c.fill-a.ensures (run_by _ _ _ c.program_on-b.ensures (run_by _ _ _ c.program_on-c.ensures c.empty.ensures))
