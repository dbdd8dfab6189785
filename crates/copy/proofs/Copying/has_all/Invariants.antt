use Prim.Native.Nat.{◌≤◌, ◌-◌}
use mathlib.Core.Path.{◌≡◌}
use lib.ListN.{length}
use Rattle.rules.specs.Unit.{stands}
use Rattle.copy.specs.Stream.{copy_from}
use Rattle.copy.proofs.Copying.has_all.Given as goal

abbrev pub invariant-loop-p : goal.invariant-loop-p
invariant-loop-p l =
    (l.low ≤ length l.self.src.now) × (l.floor ≤ l.low)
    × (copy_from l.self.whole l.self.src.now l.self.dst.now (stands l.n) (l.n - l.p) l.p l.low ≡ copy_from l.self.whole l.self.src.now l.self.dst.now (stands l.n) l.n 0 (length l.self.src.now))
