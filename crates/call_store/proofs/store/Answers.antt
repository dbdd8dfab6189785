use Prim.Native.Nat.{◌-◌}
use native.Mathlib.Omega.{arith}
use mathlib.Core.Path.{sym, ◌∙◌}
use Rattle.rules.specs.Jobs.{size_for}
use Rattle.laws.specs.Units.{right_geometry}
use Rattle.place.specs.Found.{place_vacant}
use Rattle.call_store.specs.Placed.{here_plan, after_plan, full}
use Rattle.call_store.specs.Chosen.{reclaims}
use Rattle.call_store.proofs.store.Goals as goal

pub place_of-requires : goal.place_of-requires
place_of-requires c = (right_geometry c.args.g c.args.image.now c.requires.0.homed.right, c.requires.0.homed.below, omega arith)

pub store_standing-requires : goal.store_standing-requires
unfolding size_for
store_standing-requires c =
    let found = rw c.in-Some-AsItStands.field-0-is at (sym c.in-Some-AsItStands.is ∙ c.place_of.ensures) in
    let v = place_vacant c.args.g c.args.image.now c.args.home.now c.args.order.rule (size_for c.args.content.now) (c.args.g.units - 1) c.in-Some-AsItStands.at (sym found) in
    (right_geometry c.args.g c.args.image.now c.requires.0.homed.right, c.requires.0.homed.below, v, c.requires.2, c.requires.3)

pub store_reclaiming-requires : goal.store_reclaiming-requires
unfolding size_for
store_reclaiming-requires c =
    let found = rw c.in-Some-OnceReclaimed.field-0-is at (sym c.in-Some-OnceReclaimed.is ∙ c.place_of.ensures) in
    (reclaims c.args.g c.args.image.now c.args.home.now c.args.remaining c.requires.0 c.requires.1 c.args.order.rule (size_for c.args.content.now) c.in-Some-OnceReclaimed.number found (λ i. omega (arith, c.slice_known-1.given i)), c.requires.2, c.requires.3)

pub returns-in-Some-AsItStands : goal.returns-in-Some-AsItStands
unfolding size_for
returns-in-Some-AsItStands c = λ k x.
    let found = rw c.in-Some-AsItStands.field-0-is at (sym c.in-Some-AsItStands.is ∙ c.place_of.ensures) in
    c.store_standing.ensures k (here_plan c.args.g c.args.image.now c.args.home.now c.args.remaining c.requires.0 c.requires.1 k c.args.order.rule c.args.order.tag c.args.content.now c.args.order.earlier c.args.order.allowance x c.in-Some-AsItStands.at found) x.allowance

pub returns-in-Some-OnceReclaimed : goal.returns-in-Some-OnceReclaimed
unfolding size_for
returns-in-Some-OnceReclaimed c = λ k x.
    let found = rw c.in-Some-OnceReclaimed.field-0-is at (sym c.in-Some-OnceReclaimed.is ∙ c.place_of.ensures) in
    c.store_reclaiming.ensures k (after_plan c.args.g c.args.image.now c.args.home.now c.args.remaining c.requires.0 c.requires.1 k c.args.order.rule c.args.order.tag c.args.content.now c.args.order.earlier c.args.order.allowance x c.in-Some-OnceReclaimed.number found) x.allowance

pub returns-in-None : goal.returns-in-None
unfolding size_for
returns-in-None c = λ k x. full c.args.g c.args.image.now c.args.home.now c.args.remaining c.requires.0 c.requires.1 k c.args.order.rule c.args.order.tag c.args.content.now c.args.order.earlier c.args.order.allowance x (sym c.in-None.is ∙ c.place_of.ensures)
