use Prim.Native.Nat.{◌-◌}
use Rattle.std.proofs.Common.{rules, ◌≡◌, sym, ◌∙◌}
use Rattle.std.specs.Option.{option_map}
use Rattle.place.specs.Homes.{homes_at}
use Rattle.place.specs.Search.{place_fit, place_once}
use Rattle.place.specs.declared.Fit.{Fit}
use Rattle.place.specs.declared.Place.TheVariants.{OnceReclaimed}
use Rattle.place.proofs.place_of.Goals as goal

pub returns-in-Some : goal.returns-in-Some
returns-in-Some c = place_fit c.args.g c.args.rule c.args.e (homes_at c.args.g c.args.image.now c.args.home.now (c.args.g.units - 1) 0) c.in-Some.fit (sym c.in-Some.is ∙ c.fitting.ensures)

pub returns-in-None : goal.returns-in-None
returns-in-None c =
    let m : c.map.result ≡ option_map (λ (f : Fit). OnceReclaimed f.at.unit) c.to_reclaim.result = search rules in
    m ∙ place_once c.args.g c.args.rule c.args.e (homes_at c.args.g c.args.image.now c.args.home.now (c.args.g.units - 1) 0) c.to_reclaim.result (sym c.in-None.is ∙ c.fitting.ensures) c.to_reclaim.ensures
