use Prim.Native.Nat.{ℕ}
use Rattle.std.proofs.Common.{rules, tests, arith, refl, ◌∙◌}
use Rattle.std.proofs.lemmas.Iterator.{YieldsList-from_range}
use Rattle.std.proofs.lemmas.Iterator.Search.{find_from_yields_List}
use Rattle.rules.specs.Unit.{stands, is_empty}
use Rattle.unit.specs.Shapes.{descriptor_at}
use Rattle.place.specs.Laws.{first_empty_is}
use Rattle.place.proofs.first_empty.Goals as goal

pub returns : goal.returns
returns c =
    let u = c.args.unit.now in
    c.unwrap_or.ensures ∙ first_empty_is u c.args.n c.find.result
    (find_from_yields_List (λ (p : ℕ). is_empty (descriptor_at u (stands p))) _ _ c.find.result c.find.ensures.ran (YieldsList-from_range 0 c.args.n c.args.n refl (omega arith)) (λ x b q k. search (rules, tests)))
