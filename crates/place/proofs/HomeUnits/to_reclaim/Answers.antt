use Prim.Native.Nat.{ℕ, ◌-◌}
use Rattle.std.proofs.Common.{rules, tests, arith, ap, ◌∙◌}
use Rattle.std.specs.List.{range_with_len, filter_map, reduce}
use Rattle.std.proofs.lemmas.Iterator.{YieldsList-from_range}
use Rattle.std.proofs.lemmas.Iterator.Consumers.{YieldsList-from_filter_map}
use Rattle.rules.specs.Jobs.{fitting, reclaimed, to_reclaim}
use Rattle.place.specs.Homes.{home_in, homes_at}
use Rattle.place.specs.Search.{fit_in, once}
use Rattle.place.specs.Laws.{once_fits}
use Rattle.place.specs.Best.{better, is_wider, widest_is}
use Rattle.place.specs.Chains.{reduce_is}
use Rattle.place.proofs.HomeUnits.to_reclaim.Goals as goal

pub returns : goal.returns
unfolding to_reclaim
returns c =
    let s = c.args.self.now in
    let k = s.g.units - 1 in
    let h = λ (i : ℕ). fit_in c.args.e (once s.g (home_in s.g s.image.now s.table.now i)) in
    reduce_is (filter_map h (range_with_len 0 k))
    (YieldsList-from_filter_map _ h (YieldsList-from_range 0 k k c.filter_map.ensures.source (omega arith)) c.filter_map.ensures.closure (λ x r q k. search (rules, tests)))
    (better is_wider) c.reduce.result c.reduce.ensures.runs (λ x y r q k. search rules)
    ∙ ap (reduce (better is_wider)) (once_fits s.g s.image.now s.table.now c.args.e k)
    ∙ widest_is (fitting c.args.e (reclaimed s.g (homes_at s.g s.image.now s.table.now k 0)))
