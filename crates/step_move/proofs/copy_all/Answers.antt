use Prim.Native.Nat.{ℕ, ◌-◌}
use native.Mathlib.Omega.{arith}
use mathlib.Core.Path.{◌≡◌, refl, sym, ap, ◌∙◌}
use mathlib.Core.Bool.{true, false}
use mathlib.Core.List.{List}
use Rattle.rules.specs.Flash.{Bytes, Step, state, run}
use Rattle.rules.specs.Unit.{stands}
use Rattle.rules.specs.Copy.{is_kept}
use Rattle.laws.specs.Words.{part_long}
use Rattle.laws.specs.Runs.{run_none}
use Rattle.step_new.specs.Leaves.{run_leaves}
use Rattle.step_move.specs.Copying.{part, copied}
use Rattle.step_move.specs.Laws.{below, kept_low, kept_in_lem, packs_turn, copied_none, copied_leaves, lent_descriptor, copy_start, copy_turn, copy_end}
use Rattle.step_move.proofs.copy_all.Goals as goal
use Rattle.step_move.proofs.copy_all.Goals.{then-is_kept, else-is_kept}

pub loop-p-init : goal.loop-p-init
loop-p-init c = record { long = refl; home = refl; packs = c.requires.2; left = copy_start c.args.g (part c.args.image.now c.args.way.from c.args.g.size) c.args.way.to (state c.args.image.now c.args.was) c.args.n }

pub slice_bounds-descriptor-end : goal.slice_bounds-descriptor-end
slice_bounds-descriptor-end c = omega (arith, c.requires.0.from_in, c.loop-p.invariant.long)

pub descriptor-d-requires : goal.descriptor-d-requires
unfolding stands
descriptor-d-requires c = rw (part_long c.loop-p.image c.args.way.from c.args.g.size (omega (arith, c.requires.0.from_in, c.loop-p.invariant.long))) (omega (arith, c.loop-p.invariant.packs.room, c.loop-p.invariant.packs.top))

pub overflow_sub-low : goal.overflow_sub-low
overflow_sub-low c =
    let u = part c.args.image.now c.args.way.from c.args.g.size in
    let e = lent_descriptor c.args.image.now c.loop-p.image c.args.way.from c.args.g.size c.loop-p.p c.descriptor-d.result c.loop-p.invariant.home c.descriptor-d.ensures in
    omega (arith, c.size-low.ensures, kept_low c.args.g u c.args.n c.loop-p.p c.loop-p.low c.descriptor-d.result c.loop-p-test.true e c.loop-p.invariant.packs (sym c.is_kept.ensures ∙ c.if-is_kept.true))

pub copy-r-requires : goal.copy-r-requires
unfolding stands
copy-r-requires c =
    let u = part c.args.image.now c.args.way.from c.args.g.size in
    let e = lent_descriptor c.args.image.now c.loop-p.image c.args.way.from c.args.g.size c.loop-p.p c.descriptor-d.result c.loop-p.invariant.home c.descriptor-d.ensures in
    let k : is_kept c.descriptor-d.result ≡ true = sym c.is_kept.ensures ∙ c.if-is_kept.true in
    let i = kept_in_lem c.args.g u c.args.n c.loop-p.p c.loop-p.low c.descriptor-d.result c.loop-p-test.true e c.loop-p.invariant.packs k in
    (rw c.loop-p.invariant.long c.requires.0, c.requires.1, omega (arith, c.loop-p.invariant.packs.room, c.loop-p.invariant.packs.top), k, i.0, rw c.size-low.ensures.0 (rw k at i.1))

pub loop-p-preserved : goal.loop-p-preserved
unfolding stands
loop-p-preserved c =
    let u = part c.args.image.now c.args.way.from c.args.g.size in
    let d = c.descriptor-d.result in
    let b = below d c.loop-p.low in
    let e = lent_descriptor c.args.image.now c.loop-p.image c.args.way.from c.args.g.size c.loop-p.p d c.loop-p.invariant.home c.descriptor-d.ensures in
    let x = state c.loop-p.image c.loop-p.r in
    let turn : (c.if-is_kept.low ≡ b) × (state c.if-is_kept.image c.if-is_kept.r ≡ run (copied u c.args.way.to c.loop-p.p d b) x) =
    elim c.if-is_kept.branch [
      | then-is_kept w ↦
          let k : is_kept d ≡ true = sym c.is_kept.ensures ∙ w.if-is_kept.true in
          let l : c.loop-p.low - w.size-low.result ≡ b = rw (k, w.size-low.ensures.0) in (
            w.low-is ∙ l,
            rw (w.image-is, w.r-is) (w.copy-r.ensures ∙ ap (λ (v : Bytes). run (copied v c.args.way.to c.loop-p.p d (c.loop-p.low - w.size-low.result)) x) c.loop-p.invariant.home
                ∙ ap (λ (o : ℕ). run (copied u c.args.way.to c.loop-p.p d o) x) l),
          )
      | else-is_kept w ↦
          let k : is_kept d ≡ false = sym c.is_kept.ensures ∙ w.if-is_kept.false in (
            w.low-is ∙ rw k,
            rw (w.image-is, w.r-is) (sym (ap (λ (l : List Step). run l x) (copied_none u c.args.way.to c.loop-p.p d b k) ∙ run_none x)),
          )
    ] in
    let l = packs_turn c.args.g u c.args.n c.loop-p.p c.loop-p.low d c.loop-p-test.true e c.loop-p.invariant.packs in
    record {
      long = c.if-is_kept.auto.image ∙ c.loop-p.invariant.long;
      home = run_leaves (λ (s : Bytes). part s c.args.way.from c.args.g.size) (copied u c.args.way.to c.loop-p.p d b) c.loop-p.image c.if-is_kept.image c.loop-p.r c.if-is_kept.r
          (copied_leaves c.requires.0 u c.loop-p.p d b (omega (arith, c.loop-p.invariant.packs.room, c.loop-p.invariant.packs.top)) (λ k. (kept_in_lem c.args.g u c.args.n c.loop-p.p c.loop-p.low d c.loop-p-test.true e c.loop-p.invariant.packs k).1)) turn.1
          ∙ c.loop-p.invariant.home;
      packs = rw turn.0 l;
      left = rw turn.0 (copy_turn c.args.g u c.args.n c.loop-p.p c.loop-p.low d c.loop-p-test.true e c.args.way.to (state c.loop-p.image c.loop-p.r) (state c.if-is_kept.image c.if-is_kept.r) turn.1 ∙ c.loop-p.invariant.left);
    }

pub shape_of-image : goal.shape_of-image
shape_of-image c = c.loop-p.invariant.long

pub returns : goal.returns
returns c = sym (copy_end (part c.args.image.now c.args.way.from c.args.g.size) c.args.n c.loop-p.p c.loop-p.low c.args.way.to (state c.loop-p.image c.loop-p.r) (omega arith)) ∙ c.loop-p.invariant.left
