use Prim.Native.Nat.{ℕ, ◌+◌, ◌-◌, ◌<◌}
use native.Mathlib.Omega.{arith}
use Rattle.std.specs.Prelude.{◌≡◌, None}
use Rattle.std.proofs.Common.{sym, ◌∙◌}
use borrow.Author.Count.{below_more}
use Rattle.unit.specs.Shapes.{array_of}
use Rattle.place.specs.Search.{told_at}
use Rattle.place.specs.Seek.{unit_passed, unit_found, sought_later, sought_here, sought_nowhere}
use Rattle.place.proofs.HomeUnits.seek.Goals as goal
use Rattle.place.proofs.HomeUnits.seek.Goals.{else-loop-position-test, then-loop-position-test+in_default+else-position-position-end}

pub loop-number-preserved : goal.loop-number-preserved
loop-number-preserved c =
    let s = c.args.self.now in
    let L = c.loop-number.number in
    let all : (q : ℕ) → q < c.room_of-room.result.n + 1 → told_at L c.room_of-room.result (array_of c.room_of-room.result.n c.unit-unit.result.now) q c.args.e ≡ None =
    elim c.loop-position-test.branch [
      | else-loop-position-test w ↦ λ q h. c.loop-position.invariant q (omega (arith, w.loop-position-test.false))
      | then-loop-position-test+in_default+else-position-position-end w ↦ λ q h. below_more _ _ c.loop-position.invariant (sym w.at_position.ensures ∙ w.in_default.is) q (omega arith)
    ] in
    sym (sought_later s.g s.image.now s.table.now c.args.e (s.g.units - 1) L (omega arith) (unit_passed s.g s.image.now s.table.now L c.args.e c.unit-unit.result.now c.unit-unit.ensures.whole c.unit-unit.ensures.same c.room_of-room.result c.room_of-room.ensures.0 all)) ∙ c.loop-number.invariant

pub returns-in-Some : goal.returns-in-Some
returns-in-Some c =
    let s = c.args.self.now in
    let L = c.loop-number.number in
    sought_here s.g s.image.now s.table.now c.args.e (s.g.units - 1) L c.in-Some.fit (omega arith)
    (unit_found s.g s.image.now s.table.now L c.args.e c.unit-unit.result.now c.unit-unit.ensures.whole c.unit-unit.ensures.same c.room_of-room.result c.room_of-room.ensures.0 c.loop-position.position c.in-Some.fit (omega arith) c.loop-position.invariant (sym c.at_position.ensures ∙ c.in-Some.is))
    c.loop-number.invariant

pub returns-after-loop-number : goal.returns-after-loop-number
returns-after-loop-number c =
    let s = c.args.self.now in
    sought_nowhere s.g s.image.now s.table.now c.args.e (s.g.units - 1) c.loop-number.number (omega arith) c.loop-number.invariant
