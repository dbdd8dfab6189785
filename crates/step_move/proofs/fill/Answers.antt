use Prim.Native.Nat.{ℕ, ◌+◌}
use native.Mathlib.Omega.{arith}
use mathlib.Core.Path.{◌≡◌, ap, ◌∙◌}
use mathlib.Core.List.{List}
use Rattle.rules.specs.Flash.{Bytes, Step, program, state, step, run}
use Rattle.flash.specs.Laws.{run_by}
use Rattle.step_move.specs.Copying.{part}
use native.Mathlib.Nat.{add-zero}
use Rattle.rules.specs.Unit.{header_bytes}
use Rattle.rules.specs.Copy.{packed, copies}
use Rattle.unit.specs.Shapes.{array_of}
use Rattle.step_new.specs.Leaves.{step_leaves}
use Rattle.step_move.specs.Laws.{program_leaves, packs_all, fill_is, room_is}
use Rattle.step_move.proofs.fill.Goals as goal

pub copy_all-requires : goal.copy_all-requires
copy_all-requires c = let q : part c.program_on-r.new.image c.args.way.from c.args.g.size ≡ part c.args.image.now c.args.way.from c.args.g.size =
    step_leaves (λ (s : Bytes). part s c.args.way.from c.args.g.size) (program (c.args.way.to + 0) c.args.number) c.args.image.now c.program_on-r.new.image c.args.was c.program_on-r.result
    (program_leaves c.requires.0 (c.args.way.to + 0) c.args.number (omega arith) (omega arith) c.args.image.now) c.program_on-r.ensures in
    let e = room_is c.args.image.now c.args.way.from c.args.g.size c.room_of-n.result c.requires.0.from_in c.room_of-n.ensures.0 in
    let t = c.requires.0 in (
      record { from_in = omega (arith, t.from_in); to_in = omega (arith, t.to_in); apart = t.apart },
      omega arith,
      rw q (packs_all c.args.g (part c.args.image.now c.args.way.from c.args.g.size) c.room_of-n.result.n e c.requires.4),
    )

pub returns : goal.returns
returns c = let q : part c.program_on-r.new.image c.args.way.from c.args.g.size ≡ part c.args.image.now c.args.way.from c.args.g.size =
    step_leaves (λ (s : Bytes). part s c.args.way.from c.args.g.size) (program (c.args.way.to + 0) c.args.number) c.args.image.now c.program_on-r.new.image c.args.was c.program_on-r.result
    (program_leaves c.requires.0 (c.args.way.to + 0) c.args.number (omega arith) (omega arith) c.args.image.now) c.program_on-r.ensures in
    let e = room_is c.args.image.now c.args.way.from c.args.g.size c.room_of-n.result c.requires.0.from_in c.room_of-n.ensures.0 in
    run_by _ _ _ (c.program_on-r.ensures ∙ ap (λ (a : ℕ). step (program a c.args.number) (state c.args.image.now c.args.was)) (add-zero c.args.way.to))
    (c.copy_all.ensures ∙ ap (λ (v : Bytes). run (copies c.args.way.to v header_bytes (array_of c.room_of-n.result.n v) (packed c.args.g.size (array_of c.room_of-n.result.n v))) (state c.program_on-r.new.image c.program_on-r.result)) q)
    ∙ ap (λ (l : List Step). run l (state c.args.image.now c.args.was)) (fill_is c.args.g (part c.args.image.now c.args.way.from c.args.g.size) c.args.way.to c.args.number c.room_of-n.result.n e)
