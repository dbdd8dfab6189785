use Prim.Native.Nat.{ℕ, ◌-◌, ◌<◌}
use mathlib.Core.Path.{◌≡◌}
use Rattle.std.specs.Prelude.{None}
use Rattle.unit.specs.Shapes.{array_of}
use Rattle.place.specs.Search.{told_at}
use Rattle.place.specs.Seek.{sought}
use Rattle.place.proofs.HomeUnits.seek.Given as goal

abbrev pub invariant-loop-position : goal.invariant-loop-position
invariant-loop-position l = (q : ℕ) → q < l.position → told_at l.number l.room (array_of l.room.n l.unit) q l.e ≡ None

abbrev pub invariant-loop-number : goal.invariant-loop-number
invariant-loop-number l =
    let sought_from = sought l.self.g l.self.image.now l.self.table.now l.e in
    let k = l.self.g.units - 1 in
    sought_from (k - l.number) l.number ≡ sought_from k 0
