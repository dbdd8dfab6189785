use Rattle.std.specs.Prelude.{Some}
use Prim.Native.Nat.{◌+◌, ◌%◌}
use native.Mathlib.Omega.{arith}
use mathlib.Core.List.{List}
use mathlib.Core.Path.{ap, ◌∙◌}
use lib.ListN.{length}
use Rattle.rules.specs.Flash.{Step, state, run}
use Rattle.rules.specs.Jobs.{size_for}
use Rattle.call_answer.specs.Laws.{run_within}
use Rattle.call_store.specs.Stores.{here_job}
use Rattle.call_store.specs.Laws.{vacant_inside, base_in_lem, meets_run, here_run, base_is, low_is}
use Rattle.call_store.proofs.store_standing.Goals as goal

pub slice_bounds-offset_in-end : goal.slice_bounds-offset_in-end
slice_bounds-offset_in-end c = omega (arith, base_is c.args.g c.args.image.now c.args.home.now c.args.at.unit c.from.result c.base-base.result c.from.ensures c.base-base.ensures, base_in_lem c.args.g c.args.image.now c.args.home.now c.requires.0 c.requires.1 c.args.at.unit c.requires.2.below)

pub store_in-r-requires : goal.store_in-r-requires
unfolding size_for
store_in-r-requires c =
    let g = c.args.g in
    let s = c.args.image.now in
    let b = base_is g s c.args.home.now c.args.at.unit c.from.result c.base-base.result c.from.ensures c.base-base.ensures in
    let i = base_in_lem g s c.args.home.now c.requires.0 c.requires.1 c.args.at.unit c.requires.2.below in
    let v = vacant_inside g s c.args.home.now c.requires.0 c.requires.1 (size_for c.args.content.now) c.args.at c.requires.2 in
    let o = low_is g s c.args.home.now c.args.at.unit c.from.result c.base-base.result c.from.ensures c.base-base.ensures (length c.args.content.now + length c.args.content.now % 2) c.offset_in-offset.result c.offset_in-offset.ensures in
    (c.requires.0, omega arith, v.position, omega (arith, v.sector, v.top), c.requires.3)

pub answer_of-requires : goal.answer_of-requires
answer_of-requires c = run_within _ _ _ _ _ c.store_in-r.ensures

pub returns : goal.returns
returns c = λ k p l.
    let g = c.args.g in
    let s = c.args.image.now in
    let b = base_is g s c.args.home.now c.args.at.unit c.from.result c.base-base.result c.from.ensures c.base-base.ensures in
    let o = low_is g s c.args.home.now c.args.at.unit c.from.result c.base-base.result c.from.ensures c.base-base.ensures (length c.args.content.now + length c.args.content.now % 2) c.offset_in-offset.result c.offset_in-offset.ensures in
    meets_run g s k c.args.at c.args.order.allowance l _ c.store_in-r.result _ c.answer_of.ensures (here_job g s c.args.home.now c.args.order.tag c.args.content.now c.args.order.earlier c.args.at) p
    (c.store_in-r.ensures ∙ ap (λ (j : List Step). run j (state s (Some c.args.order.allowance))) (here_run g s c.args.home.now c.args.order.tag c.args.content.now c.args.order.earlier c.args.at c.base-base.result c.offset_in-offset.result b o))
