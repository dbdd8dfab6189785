use mathlib.Core.Path.{ap, ◌∙◌}
use lib.ListN.{length}
use Rattle.rules.specs.Flash.{Step, state, run}
use Rattle.flash.specs.Laws.{run_on}
use mathlib.Core.List.{List}
use Rattle.rules.specs.Unit.{current}
use Rattle.step_end.specs.Turns.{commit_at}
use Rattle.step_end.specs.Laws.{Tags, one_kept, clean_up_as}
use Rattle.step_end.proofs.commit.Goals as goal

pub returns : goal.returns
unfolding commit_at
returns c = let t : Tags c.become_if-r.new.image c.args.image.now = one_kept (length c.args.image.now) current c.args.transaction c.args.image.now c.become_if-r.new.image c.args.was c.become_if-r.result c.requires.2 c.become_if-r.ensures in
    run_on _ _ _ c.become_if-r.ensures (c.clean_up.ensures ∙ ap (λ (l : List Step). run l (state c.become_if-r.new.image c.become_if-r.result)) (clean_up_as (length c.args.image.now) c.become_if-r.new.image c.args.image.now c.args.current.now c.args.pending.now t c.requires.1 c.args.transaction))
