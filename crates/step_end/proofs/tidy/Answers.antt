use mathlib.Core.Path.{ap, ◌∙◌}
use lib.ListN.{length}
use Rattle.rules.specs.Flash.{Step, state, run}
use Rattle.flash.specs.Laws.{run_on}
use mathlib.Core.List.{List}
use Rattle.step_end.specs.Turns.{tidy_at}
use Rattle.step_end.specs.Laws.{Tags, mend_kept, end_as}
use Rattle.step_end.proofs.tidy.Goals as goal

pub returns : goal.returns
unfolding tidy_at
returns c = let t : Tags c.mend-r.new.image c.args.image.now = mend_kept (length c.args.image.now) c.args.at.torn c.args.at.allocated c.args.image.now c.mend-r.new.image c.args.was c.mend-r.result c.requires.2 c.requires.3 c.mend-r.ensures in
    run_on _ _ _ c.mend-r.ensures (c.end.ensures ∙ ap (λ (l : List Step). run l (state c.mend-r.new.image c.mend-r.result)) (end_as (length c.args.image.now) c.mend-r.new.image c.args.image.now c.args.current.now c.args.pending.now t c.requires.1 c.args.at.opened c.args.at.committed))
