use mathlib.Core.Path.{ap, ◌∙◌}
use Rattle.rules.specs.Flash.{Step, state, run}
use mathlib.Core.List.{List}
use Rattle.step_end.specs.Laws.{end_none, end_some}
use Rattle.step_end.proofs.end.Goals as goal

pub returns-then-committed-eq-NOWHERE : goal.returns-then-committed-eq-NOWHERE
returns-then-committed-eq-NOWHERE c = c.abort.ensures ∙ ap (λ (l : List Step). run l (state c.args.image.now c.args.was)) (end_none c.args.image.now c.args.current.now c.args.pending.now c.args.opened c.args.committed c.if-committed-eq-NOWHERE.true)

pub returns-else-committed-eq-NOWHERE : goal.returns-else-committed-eq-NOWHERE
returns-else-committed-eq-NOWHERE c = c.clean_up.ensures ∙ ap (λ (l : List Step). run l (state c.args.image.now c.args.was)) (end_some c.args.image.now c.args.current.now c.args.pending.now c.args.opened c.args.committed c.if-committed-eq-NOWHERE.false)
