use mathlib.Core.Path.{sym, ◌∙◌}
use Rattle.rules.specs.Flash.{state}
use Rattle.step_new.specs.Laws.{if_none, if_some}
use Rattle.step_new.proofs.become_if.Goals as goal

pub returns-then-place-eq-NOWHERE : goal.returns-then-place-eq-NOWHERE
returns-then-place-eq-NOWHERE c = sym (if_none c.args.flags c.args.place (state c.args.image.now c.args.was) c.if-place-eq-NOWHERE.true)

pub returns-else-place-eq-NOWHERE : goal.returns-else-place-eq-NOWHERE
returns-else-place-eq-NOWHERE c = c.become_one.ensures ∙ sym (if_some c.args.flags c.args.place (state c.args.image.now c.args.was) c.if-place-eq-NOWHERE.false)
