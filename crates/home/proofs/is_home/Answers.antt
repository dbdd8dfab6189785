use Rattle.std.proofs.Common.{sym, ◌∙◌}
use native.Mathlib.Nat.{add-sub_cancel_left}
use Rattle.unit.specs.BridgeHome.{home_gap}
use Rattle.home.proofs.is_home.Goals as goal

pub returns-else-is_erased : goal.returns-else-is_erased
returns-else-is_erased c =
    let gap = rw (add-sub_cancel_left, c.gap.ensures, c.stands-from.ensures) at c.is_erased.ensures in
    c.if-is_erased.false ∙ sym (home_gap c.args.g c.args.unit.now c.args.r c.requires (sym gap ∙ c.if-is_erased.false))
