use Rattle.std.proofs.Common.{◌<◌, ◌≤◌, ◌+◌}
use Rattle.hex_read.specs.Checks.{Noted}
use Rattle.hex_read.proofs.name.Given as goal

abbrev pub invariant-loop-k : goal.invariant-loop-k
invariant-loop-k l = record { fits : 0 < l.n → l.a + l.n ≤ l.size; noted : Noted l.initial.named l.a l.k l.named }
