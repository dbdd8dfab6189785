use Rattle.std.proofs.Common.{◌≡◌, ℕ, ◌+◌, ◌-◌, ◌≤◌, length, drop, sym, ap, ◌∙◌, arith}
use native.Mathlib.Nat.{sub-zero}
use Rattle.rules.specs.Unit.{stands, lower}
use Rattle.laws.specs.Rooms.{lower_le}
use Rattle.unit.specs.Shapes.{descriptor_at, upward, room_of}
use Rattle.unit.specs.Laws.{upward_used, upward_end, PassedTo, passed}
use Rattle.unit.proofs.room_of.Goals as goal

pub loop-low-init : goal.loop-low-init
unfolding room_of stands
loop-low-init c =
    let u = c.args.unit.now in
    let w : PassedTo u (length u) 0 (length u) c.used_from-p.result = passed u (length u) (length u) (omega arith) 0 c.used_from-p.result (omega arith) c.used_from-p.ensures in
    (w.inside, omega arith, omega arith, w.used, sym (w.same 0) ∙ rw sub-zero)

pub used_from-p-requires-in-loop-low : goal.used_from-p-requires-in-loop-low
unfolding stands
used_from-p-requires-in-loop-low c = (omega arith, omega (arith, c.lower-low.ensures, lower_le c.loop-low.low c.descriptor.result), omega arith)

pub loop-low-smaller : goal.loop-low-smaller
unfolding stands
loop-low-smaller c =
    let u = c.args.unit.now in
    let low = c.lower-low.result in
    let le : low ≤ c.loop-low.low = omega (arith, c.lower-low.ensures, lower_le c.loop-low.low c.descriptor.result) in
    let w : PassedTo u (length u) (c.loop-low.p + 1) low c.used_from-p-in-loop-low.result = passed u (length u) low (omega arith) (c.loop-low.p + 1) c.used_from-p-in-loop-low.result (omega arith) c.used_from-p-in-loop-low.ensures in
    omega (arith, w.onward)

pub loop-low-preserved : goal.loop-low-preserved
unfolding stands
loop-low-preserved c =
    let u = c.args.unit.now in
    let p = c.loop-low.p in
    let low = c.lower-low.result in
    let lowers : low ≡ lower c.loop-low.low (descriptor_at u (stands p)) = c.lower-low.ensures ∙ ap (lower c.loop-low.low) c.descriptor.ensures in
    let le : low ≤ c.loop-low.low = omega (arith, lowers, lower_le c.loop-low.low (descriptor_at u (stands p))) in
    let w : PassedTo u (length u) (p + 1) low c.used_from-p-in-loop-low.result = passed u (length u) low (omega arith) (p + 1) c.used_from-p-in-loop-low.result (omega arith) c.used_from-p-in-loop-low.ensures in (
      w.inside,
      omega arith,
      w.onward,
      w.used,
      sym (w.same (p + 1)) ∙ ap (λ (x : ℕ). upward (length u - (p + 1)) (drop (stands (p + 1)) u) (p + 1) x (p + 1)) lowers
          ∙ sym (upward_used u (length u) p c.loop-low.low c.loop-low.n (omega arith) (omega arith) (c.loop-low.invariant.3 (omega arith))) ∙ c.loop-low.invariant.4,
    )

pub returns : goal.returns
unfolding stands
returns c =
    let u = c.args.unit.now in
    (sym (upward_end u (length u) c.loop-low.p c.loop-low.low c.loop-low.n (omega arith)) ∙ c.loop-low.invariant.4, omega arith, omega arith)
