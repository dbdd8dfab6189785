use native.Mathlib.Nat.{add-sub_cancel_left}
use mathlib.Core.Path.{sym, ◌∙◌}
use lib.ListN.{take, drop}
use Rattle.rules.specs.Flash.{state}
use Rattle.step_new.specs.Laws.{wipe_none, wipe_one}
use Rattle.step_new.proofs.wipe.Goals as goal

pub returns-then-is_erased : goal.returns-then-is_erased
returns-then-is_erased c = sym (wipe_none c.args.g c.args.base (take c.args.g.size (drop c.args.base c.args.image.now)) (state c.args.image.now c.args.was) (rw (add-sub_cancel_left c.args.base c.args.g.size) at (sym c.is_erased.ensures ∙ c.if-is_erased.true)))

pub returns-else-is_erased : goal.returns-else-is_erased
returns-else-is_erased c = c.erase_on.ensures ∙ sym (wipe_one c.args.g c.args.base (take c.args.g.size (drop c.args.base c.args.image.now)) (state c.args.image.now c.args.was) (rw (add-sub_cancel_left c.args.base c.args.g.size) at (sym c.is_erased.ensures ∙ c.if-is_erased.false)))
