use Prim.Native.Nat.{◌+◌, ◌≤◌}
use native.Mathlib.Omega.{arith}
use mathlib.Core.Path.{◌≡◌, sym, ◌∙◌}
use Rattle.rules.specs.Flash.{Bytes, program, state}
use Rattle.step_move.specs.Copying.{part}
use Rattle.step_new.specs.Leaves.{step_leaves}
use Rattle.step_move.specs.Laws.{carry_turn, carry_end, program_leaves}
use Rattle.step_move.proofs.carry.Goals as goal

pub loop-i-preserved : goal.loop-i-preserved
loop-i-preserved c =
    let a = c.args.way.to + (c.args.target + c.loop-i.i) in
    let e : c.args.way.to + (c.args.target + (c.loop-i.i + 2)) ≡ a + 2 = omega arith in
    let h : c.loop-i.i + 2 ≤ c.args.len = omega (arith, c.loop-i.invariant.even) in
    record {
      even = omega (arith, c.loop-i.invariant.even);
      home = step_leaves (λ (s : Bytes). part s c.args.way.from c.args.size) (program a c.word-w.result) c.loop-i.image c.program_on-r.new.image c.loop-i.r c.program_on-r.result
          (program_leaves c.requires.0 a c.word-w.result (omega arith) (omega arith) c.loop-i.image) c.program_on-r.ensures ∙ c.loop-i.invariant.home;
      left = rw e (carry_turn c.args.image.now c.loop-i.image c.args.way.from c.args.size c.args.source c.args.len c.loop-i.i c.loop-i.invariant.home c.requires.1 c.requires.0.from_in h a c.word-w.result c.word-w.ensures
          (state c.loop-i.image c.loop-i.r) (state c.program_on-r.new.image c.program_on-r.result) c.program_on-r.ensures ∙ c.loop-i.invariant.left);
    }

pub returns : goal.returns
returns c =
    sym (carry_end c.args.image.now c.loop-i.image c.args.way.from c.args.size c.args.source c.args.len c.loop-i.i c.loop-i.invariant.home c.requires.1 c.requires.0.from_in (omega arith)
    (c.args.way.to + (c.args.target + c.loop-i.i)) (state c.loop-i.image c.loop-i.r)) ∙ c.loop-i.invariant.left

pub returns-2 : goal.returns-2
returns-2 c =
    let a = c.args.way.to + (c.args.target + c.loop-i.i) in
    let after = state c.program_on-r.new.image c.program_on-r.result in
    let h : c.loop-i.i + 2 ≤ c.args.len = omega (arith, c.loop-i.invariant.even) in
    sym (carry_end c.args.image.now c.loop-i.image c.args.way.from c.args.size c.args.source c.args.len (c.loop-i.i + 2) c.loop-i.invariant.home c.requires.1 c.requires.0.from_in (omega arith) (a + 2) after)
    ∙ carry_turn c.args.image.now c.loop-i.image c.args.way.from c.args.size c.args.source c.args.len c.loop-i.i c.loop-i.invariant.home c.requires.1 c.requires.0.from_in h a c.word-w.result c.word-w.ensures
    (state c.loop-i.image c.loop-i.r) after c.program_on-r.ensures
    ∙ c.loop-i.invariant.left
