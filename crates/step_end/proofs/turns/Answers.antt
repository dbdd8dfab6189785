use mathlib.Core.Path.{sym, ◌∙◌}
use Rattle.rules.specs.Flash.{state}
use Rattle.step_end.specs.Laws.{turn_turn, turn_kept, turn_end}
use Rattle.step_end.proofs.turns.Goals as goal

pub loop-place-preserved : goal.loop-place-preserved
loop-place-preserved c =
    let spot = c.requires.1 c.loop-place.place-index c.loop-place-test.true in
    let e = rw c.from.ensures at c.turn-r.ensures in (
      turn_kept c.args.image.now c.loop-place.image c.turn-r.new.image c.loop-place.r c.turn-r.result c.args.current.now c.args.pending.now c.loop-place.place-index c.loop-place-test.true c.loop-place.invariant.0
          (rw c.loop-place.auto.image spot) (rw c.loop-place.auto.image c.requires.0) e,
      turn_turn c.args.image.now c.loop-place.image c.turn-r.new.image c.loop-place.r c.turn-r.result c.args.current.now c.args.pending.now c.loop-place.place-index c.loop-place-test.true c.loop-place.invariant.0
          (rw c.loop-place.auto.image spot) (rw c.loop-place.auto.image c.requires.0) e ∙ c.loop-place.invariant.1,
    )

pub returns : goal.returns
returns c = sym (turn_end c.args.image.now c.args.current.now c.args.pending.now c.loop-place.place-index c.loop-place-test.false (state c.loop-place.image c.loop-place.r)) ∙ c.loop-place.invariant.1
