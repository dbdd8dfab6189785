use Rattle.std.proofs.Common.{◌≡◌, ◌-◌}
use Rattle.rules.specs.Settled.{entries_of, survey}
use Rattle.home_table.specs.Bridge.{houses}
use Rattle.index.specs.Walk.{met_all}
use Rattle.index.proofs.walk.walk.Given as goal

abbrev pub invariant-loop-l : goal.invariant-loop-l
invariant-loop-l g l =
    met_all g.V.Visitor.met (entries_of (houses l.g l.image l.home (l.g.units - 1 - l.l) l.l)) l.visitor
    ≡ met_all g.V.Visitor.met (survey l.g l.image).entries l.initial.visitor
