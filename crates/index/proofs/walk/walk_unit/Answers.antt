use Rattle.std.proofs.Common.{◌≡◌, ◌+◌, ◌≤◌, ap, sym, ◌∙◌, arith, length}
use native.Mathlib.Nat.{sub-zero}
use Rattle.rules.specs.Unit.{stands, lower}
use Rattle.unit.specs.Shapes.{descriptor_at}
use Rattle.unit.specs.Laws.{passed}
use Rattle.laws.specs.Rooms.{lower_le}
use Rattle.index.specs.Walk.{up_turn, up_over, up_end, unit_met}
use Rattle.index.proofs.walk.walk_unit.Goals as goal

pub loop-low-init : goal.loop-low-init
unfolding stands
loop-low-init g c =
    let u = c.args.unit.now in
    let w = passed u (length u) (length u) (omega arith) 0 c.used_from-p.result (omega arith) c.used_from-p.ensures in
    (w.inside, omega arith, sym (up_over g.V.Visitor.met g.met.V.Visitor.skips u c.args.base (length u) (length u) (omega arith) c.args.visitor.now 0 c.used_from-p.result c.used_from-p.ensures) ∙ rw sub-zero)

pub used_from-p-requires-in-loop-low : goal.used_from-p-requires-in-loop-low
unfolding stands
used_from-p-requires-in-loop-low g c = (omega arith, omega (arith, c.lower-low.ensures, lower_le c.loop-low.low c.descriptor-d.result), omega arith)

pub loop-low-smaller : goal.loop-low-smaller
unfolding stands
loop-low-smaller g c =
    let u = c.args.unit.now in
    let low = c.lower-low.result in
    let le : low ≤ c.loop-low.low = omega (arith, c.lower-low.ensures, lower_le c.loop-low.low c.descriptor-d.result) in
    let w = passed u (length u) low (omega arith) (c.loop-low.p + 1) c.used_from-p-in-loop-low.result (omega arith) c.used_from-p-in-loop-low.ensures in
    omega (arith, w.onward)

pub loop-low-preserved : goal.loop-low-preserved
unfolding stands
loop-low-preserved g c =
    let m = g.V.Visitor.met in
    let u = c.args.unit.now in
    let p = c.loop-low.p in
    let d = descriptor_at u (stands p) in
    let low = c.lower-low.result in
    let q = c.used_from-p-in-loop-low.result in
    let n : low ≡ lower c.loop-low.low d = c.lower-low.ensures ∙ ap (lower c.loop-low.low) c.descriptor-d.ensures in
    let le : low ≤ c.loop-low.low = omega (arith, n, lower_le c.loop-low.low d) in
    let w = passed u (length u) low (omega arith) (p + 1) q (omega arith) c.used_from-p-in-loop-low.ensures in
    let v : c.meet.new.self ≡ m (c.args.base + stands p) d c.loop-low.visitor = c.meet.ensures ∙ rw (c.place.ensures, c.descriptor-d.ensures) in (
      w.inside,
      omega arith,
      sym (up_over m g.met.V.Visitor.skips u c.args.base (length u) low (omega arith) c.meet.new.self (p + 1) q c.used_from-p-in-loop-low.ensures)
          ∙ rw (n, v) (sym (up_turn m u c.args.base (length u) p c.loop-low.low c.loop-low.visitor (omega arith) (omega arith)) ∙ c.loop-low.invariant.2),
    )

pub returns : goal.returns
unfolding stands
returns g c =
    let m = g.V.Visitor.met in
    let u = c.args.unit.now in
    sym (up_end m u c.args.base (length u) c.loop-low.p c.loop-low.low c.loop-low.visitor (omega arith))
    ∙ c.loop-low.invariant.2
    ∙ unit_met m g.met.V.Visitor.skips c.args.base u c.args.visitor.now
