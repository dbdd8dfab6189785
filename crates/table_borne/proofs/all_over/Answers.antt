use Prim.Native.Nat.{ℕ}
use Rattle.std.proofs.Common.{rules, tests, arith, refl, ◌∙◌}
use Rattle.std.proofs.lemmas.Iterator.{YieldsList-from_range}
use Rattle.std.proofs.lemmas.Iterator.Search.{all_from_yields_List}
use Rattle.rules.specs.Unit.{stands}
use Rattle.unit.specs.Shapes.{descriptor_at}
use Rattle.table_borne.specs.Shapes.{is_over}
use Rattle.table_borne.specs.Reached.{over_is}
use Rattle.table_borne.proofs.all_over.Goals as goal

pub returns : goal.returns
returns c =
    let u = c.args.unit.now in
    all_from_yields_List (λ (q : ℕ). is_over (descriptor_at u (stands q)) c.args.floor) _ _ c.all.result c.all.ensures.ran (YieldsList-from_range 0 c.args.many c.args.many refl (omega arith)) (λ x b q k. search (rules, tests))
    ∙ over_is u c.args.floor c.args.many
