use Rattle.std.proofs.Common.{◌≡◌, ◌-◌}
use Rattle.home_table.specs.Places.{claims}
use Rattle.home_table.proofs.homes.claim_all.Given as goal

abbrev pub invariant-loop-u : goal.invariant-loop-u
invariant-loop-u l = claims l.store.g.size l.store.image.now (l.store.g.units - 1) l.state (l.store.g.units - l.u) l.u l.claims ≡ claims l.store.g.size l.store.image.now (l.store.g.units - 1) l.state l.store.g.units 0 l.initial.claims
