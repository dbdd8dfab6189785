use Rattle.std.proofs.Common.{◌≡◌, ◌≤◌, ◌-◌}
use Rattle.counts.specs.Tally.{nothing}
use Rattle.judge.specs.Round.{round_from}
use Rattle.judge.proofs.round.go_round.Given as goal

abbrev pub invariant-loop-l : goal.invariant-loop-l
invariant-loop-l l =
    (l.retired ≤ l.l)
    × (round_from l.homes.store.g l.homes.store.image.now l.homes.at (l.homes.store.g.units - 1 - l.l) l.l l.retired l.counting ≡ round_from l.homes.store.g l.homes.store.image.now l.homes.at (l.homes.store.g.units - 1) 0 0 nothing)
