use Prim.Native.Nat.{ℕ, ◌+◌, ◌-◌, ◌%◌, ◌≤◌}
use native.Mathlib.Omega.{arith}
use mathlib.Core.Path.{◌≡◌, ap, ap₂, sym, subst, ◌∙◌}
use lib.ListN.{length}
use borrow.Author.Rules.{rules}
use Rattle.rules.specs.Unit.{Room, n, stands}
use Rattle.rules.specs.Jobs.{size_for, vacant}
use Rattle.laws.specs.Units.{right_long}
use Rattle.step_new.specs.Places.{SpotIf}
use Rattle.call_answer.specs.Laws.{run_within}
use Rattle.call_store.specs.Stores.{moved_if, after_job, handle_then}
use Rattle.call_store.specs.Laws.{meets_run, base_is}
use Rattle.call_store.specs.Moves.{then_inside, earlier_moved, left_few, home_few, right_so, moves, after_run, answer_then}
use Rattle.call_store.proofs.store_reclaiming.Goals as goal

pub bounds-home-number : goal.bounds-home-number
bounds-home-number c = omega (arith, c.requires.0.below, (right_so c.args.g c.args.image.now c.args.home.now c.args.remaining (size_for c.args.content.now) c.args.number c.requires.0).few)

pub base-requires : goal.base-requires
base-requires c =
    let e = size_for c.args.content.now in
    ((right_so c.args.g c.args.image.now c.args.home.now c.args.remaining e c.args.number c.requires.0).small, omega (arith, c.from.ensures, home_few c.args.g c.args.image.now c.args.home.now c.args.remaining e c.args.number c.requires.0))

pub base-requires-2 : goal.base-requires-2
base-requires-2 c =
    let e = size_for c.args.content.now in
    ((right_so c.args.g c.args.image.now c.args.home.now c.args.remaining e c.args.number c.requires.0).small, left_few c.args.g c.args.image.now c.args.home.now c.args.remaining e c.args.number c.requires.0)

pub overflow_add-way : goal.overflow_add-way
overflow_add-way c =
    let m = moves c.args.g c.args.image.now c.args.home.now c.args.remaining (size_for c.args.content.now) c.args.number c.requires.0 c.from.result c.base.result c.base-2.result c.from.ensures c.base.ensures c.base-2.ensures in
    omega (arith, m.short)

pub slice_bounds-slot_then-end : goal.slice_bounds-slot_then-end
slice_bounds-slot_then-end c =
    let m = moves c.args.g c.args.image.now c.args.home.now c.args.remaining (size_for c.args.content.now) c.args.number c.requires.0 c.from.result c.base.result c.base-2.result c.from.ensures c.base.ensures c.base-2.ensures in
    omega (arith, m.two.from_in)

pub slot_then-slot-requires : goal.slot_then-slot-requires
slot_then-slot-requires c =
    let m = moves c.args.g c.args.image.now c.args.home.now c.args.remaining (size_for c.args.content.now) c.args.number c.requires.0 c.from.result c.base.result c.base-2.result c.from.ensures c.base.ensures c.base-2.ensures in
    (m.lent, c.requires.2)

pub moved_place-earlier-requires : goal.moved_place-earlier-requires
moved_place-earlier-requires c =
    let m = moves c.args.g c.args.image.now c.args.home.now c.args.remaining (size_for c.args.content.now) c.args.number c.requires.0 c.from.result c.base.result c.base-2.result c.from.ensures c.base.ensures c.base-2.ensures in
    m.short

pub move_unit-moved-requires : goal.move_unit-moved-requires
move_unit-moved-requires c =
    let m = moves c.args.g c.args.image.now c.args.home.now c.args.remaining (size_for c.args.content.now) c.args.number c.requires.0 c.from.result c.base.result c.base-2.result c.from.ensures c.base.ensures c.base-2.ensures in
    (m.two, m.least, m.most, omega (arith, m.number), m.copyable)

pub store_in-r-requires : goal.store_in-r-requires
unfolding size_for
store_in-r-requires c =
    let g = c.args.g in
    let s = c.args.image.now in
    let e = size_for c.args.content.now in
    let m = moves g s c.args.home.now c.args.remaining e c.args.number c.requires.0 c.from.result c.base.result c.base-2.result c.from.ensures c.base.ensures c.base-2.ensures in
    let f = base_is g s c.args.home.now c.args.number c.from.result c.base.result c.from.ensures c.base.ensures in
    let l : length c.move_unit-moved.new.image ≡ length s = search rules in
    let p = c.slot_then-slot.ensures.0 ∙ ap (λ (r : Room). vacant r.array) m.once in
    let o = c.slot_then-slot.ensures.1 ∙ ap (λ (r : Room). r.low - (length c.args.content.now + length c.args.content.now % 2)) m.once in
    let v = then_inside g s c.args.home.now c.args.remaining e c.args.number c.requires.0 (subst (λ (r : Room). stands (n r) ≤ g.size) m.once c.slot_then-slot.ensures.2) in
    let b = subst (SpotIf (length s)) (ap₂ (λ (x y : ℕ). moved_if x y g.size c.args.order.earlier) (sym f) (sym c.base-2.ensures) ∙ sym c.moved_place-earlier.ensures) (earlier_moved g s c.args.home.now c.args.remaining e c.args.number c.requires.0 c.args.order.earlier c.requires.1) in
    rw l (right_long l (right_so g s c.args.home.now c.args.remaining e c.args.number c.requires.0), m.two.to_in, rw p v.position, omega (arith, o, v.sector, v.top), b)

pub answer_of-requires : goal.answer_of-requires
answer_of-requires c =
    let g = c.args.g in
    let s = c.args.image.now in
    let m = moves g s c.args.home.now c.args.remaining (size_for c.args.content.now) c.args.number c.requires.0 c.from.result c.base.result c.base-2.result c.from.ensures c.base.ensures c.base-2.ensures in
    let f = base_is g s c.args.home.now c.args.number c.from.result c.base.result c.from.ensures c.base.ensures in
    let p = c.slot_then-slot.ensures.0 ∙ ap (λ (r : Room). vacant r.array) m.once in
    let o = c.slot_then-slot.ensures.1 ∙ ap (λ (r : Room). r.low - (length c.args.content.now + length c.args.content.now % 2)) m.once in
    run_within _ _ _ _ _ (after_run g s c.args.home.now c.args.remaining c.args.order.tag c.args.content.now c.args.order.earlier c.args.number c.base.result c.base-2.result c.slot_then-slot.result.position c.slot_then-slot.result.offset c.moved_place-earlier.result f c.base-2.ensures p o c.moved_place-earlier.ensures _ c.move_unit-moved.ensures c.store_in-r.ensures)

pub returns : goal.returns
returns c = λ k q a.
    let g = c.args.g in
    let s = c.args.image.now in
    let m = moves g s c.args.home.now c.args.remaining (size_for c.args.content.now) c.args.number c.requires.0 c.from.result c.base.result c.base-2.result c.from.ensures c.base.ensures c.base-2.ensures in
    let f = base_is g s c.args.home.now c.args.number c.from.result c.base.result c.from.ensures c.base.ensures in
    let p = c.slot_then-slot.ensures.0 ∙ ap (λ (r : Room). vacant r.array) m.once in
    let o = c.slot_then-slot.ensures.1 ∙ ap (λ (r : Room). r.low - (length c.args.content.now + length c.args.content.now % 2)) m.once in
    meets_run g s k (handle_then g s c.args.home.now c.args.number) c.args.order.allowance a _ c.store_in-r.result _
    (answer_then g s c.args.home.now c.args.remaining c.args.order.tag c.args.content.now c.args.order.earlier c.args.number c.base.result c.base-2.result c.slot_then-slot.result.position c.slot_then-slot.result.offset c.moved_place-earlier.result f c.base-2.ensures p o c.moved_place-earlier.ensures _ _ _ c.answer_of.ensures)
    (after_job g s c.args.home.now c.args.remaining c.args.order.tag c.args.content.now c.args.order.earlier c.args.number) q
    (after_run g s c.args.home.now c.args.remaining c.args.order.tag c.args.content.now c.args.order.earlier c.args.number c.base.result c.base-2.result c.slot_then-slot.result.position c.slot_then-slot.result.offset c.moved_place-earlier.result f c.base-2.ensures p o c.moved_place-earlier.ensures _ c.move_unit-moved.ensures c.store_in-r.ensures)
