use Rattle.std.proofs.Common.{◌≡◌, ◌-◌, drop}
use Rattle.rules.specs.Unit.{stands}
use Rattle.unit.specs.Shapes.{table, array_of}
use Rattle.counts.specs.Tally.{tallied}
use Rattle.counts.proofs.noting.Counting.count.Given as goal

abbrev pub invariant-loop-p : goal.invariant-loop-p
invariant-loop-p l = tallied (table (l.n - l.p) (drop (stands l.p) l.unit)) l.self ≡ tallied (array_of l.n l.unit) l.initial.self
