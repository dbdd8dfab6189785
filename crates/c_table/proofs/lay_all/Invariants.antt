use Rattle.std.proofs.Common.{◌≡◌}
use Rattle.table_entries.specs.Puts.{laid_in}
use Rattle.c_table.proofs.lay_all.Given as goal

-- What the first i places tell is laid.
abbrev pub invariant-loop-i : goal.invariant-loop-i
invariant-loop-i l = l.t ≡ laid_in l.size l.image l.places l.i l.initial.t
