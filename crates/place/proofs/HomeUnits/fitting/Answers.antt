use Prim.Native.Nat.{ℕ, ◌-◌}
use Rattle.std.proofs.Common.{rules, tests, arith, sym, ap, ◌∙◌}
use Rattle.std.specs.List.{range_with_len, filter_map, reduce}
use Rattle.std.proofs.lemmas.Iterator.{YieldsList-from_range}
use Rattle.std.proofs.lemmas.Iterator.Consumers.{YieldsList-from_filter_map}
use Rattle.rules.specs.Jobs.{fitting, least}
use Rattle.rules.specs.declared.Rule.{Rule}
use Rattle.place.specs.Homes.{home_in, homes_at}
use Rattle.place.specs.Search.{fit_in, as_fit}
use Rattle.place.specs.Laws.{standing_fits}
use Rattle.place.specs.Best.{better, is_tighter, tightest_is}
use Rattle.place.specs.Chains.{reduce_is}
use Rattle.place.proofs.HomeUnits.fitting.Goals as goal

pub returns-in-Tightest : goal.returns-in-Tightest
returns-in-Tightest c =
    let s = c.args.self.now in
    let k = s.g.units - 1 in
    let h = λ (i : ℕ). fit_in c.args.e (home_in s.g s.image.now s.table.now i) in
    reduce_is (filter_map h (range_with_len 0 k))
    (YieldsList-from_filter_map _ h (YieldsList-from_range 0 k k c.filter_map.ensures.source (omega arith)) c.filter_map.ensures.closure (λ x r q k. search (rules, tests)))
    (better is_tighter) c.reduce.result c.reduce.ensures.runs (λ x y r q k. search rules)
    ∙ ap (reduce (better is_tighter)) (standing_fits s.g s.image.now s.table.now c.args.e k)
    ∙ tightest_is (fitting c.args.e (homes_at s.g s.image.now s.table.now k 0))
    ∙ ap (λ (q : Rule). as_fit (least q (fitting c.args.e (homes_at s.g s.image.now s.table.now k 0)))) (sym c.in-Tightest.is)

pub returns-in-Lowest : goal.returns-in-Lowest
returns-in-Lowest c =
    let s = c.args.self.now in
    c.seek.ensures ∙ ap (λ (q : Rule). as_fit (least q (fitting c.args.e (homes_at s.g s.image.now s.table.now (s.g.units - 1) 0)))) (sym c.in-Lowest.is)
