use Rattle.std.proofs.Common.{◌≡◌, ◌-◌}
use Rattle.home_table.specs.Places.{left_from}
use Rattle.home_table.proofs.homes.remaining_of.Given as goal

abbrev pub invariant-loop-u : goal.invariant-loop-u
invariant-loop-u l = left_from l.store.g.size l.store.image.now (l.store.g.units - 1) l.at (l.store.g.units - l.u) l.u ≡ left_from l.store.g.size l.store.image.now (l.store.g.units - 1) l.at l.store.g.units 0
