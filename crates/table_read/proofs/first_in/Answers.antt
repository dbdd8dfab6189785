use Rattle.std.proofs.Common.{refl, rules, tests, arith}
use Rattle.std.proofs.lemmas.Iterator.{YieldsList-from_range}
use Rattle.std.proofs.lemmas.Iterator.Search.{find_from_yields_List}
use Rattle.table_read.specs.Homes.{holds, search_is}
use Rattle.table_read.proofs.first_in.Goals as goal

pub returns : goal.returns
returns c =
    let s = c.args.store in
    search_is s.g.size s.image.now c.args.state c.args.l s.g.units c.find.result
    (find_from_yields_List (holds s.g.size s.image.now c.args.state c.args.l) _ _ c.find.result c.find.ensures.ran (YieldsList-from_range 0 s.g.units s.g.units refl (omega arith)) (λ x b q k. search (rules, tests)))
