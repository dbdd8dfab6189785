use Rattle.std.proofs.Common.{◌≡◌, ℕ, length}
use Rattle.laws_slices.specs.Lists.{laid_by}
use Rattle.c_table.proofs.lay_each.Given as goal

-- The places before i have the entry.
abbrev pub invariant-loop-i : goal.invariant-loop-i
invariant-loop-i l = (length l.t ≡ length l.initial.t) × (l.t ≡ laid_by (λ (j : ℕ). l.e) l.i l.initial.t)
