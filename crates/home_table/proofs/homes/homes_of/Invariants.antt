use Rattle.std.proofs.Common.{◌≡◌, ◌-◌, ◌<◌, ℕ, get_or}
use Rattle.home_table.specs.Places.{eithers, places_of}
use Rattle.home_table.proofs.homes.homes_of.Given as goal

abbrev pub invariant-loop-l : goal.invariant-loop-l
invariant-loop-l l =
    (eithers l.live l.retired (l.store.g.units - 1 - l.l) l.l l.at ≡ places_of l.store.g.size l.store.g.units l.store.image.now)
    × ((L : ℕ) → L < l.l → get_or l.at L 0 < l.store.g.units)
