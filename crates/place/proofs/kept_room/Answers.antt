use native.Mathlib.Omega.{arith}
use mathlib.Core.Path.{sym, ◌∙◌}
use Rattle.unit.specs.LoopTurns.{kept_turn, kept_end}
use Rattle.place.proofs.kept_room.Goals as goal
use Rattle.place.proofs.kept_room.Goals.{then-is_kept, else-is_kept}

pub loop-p-preserved : goal.loop-p-preserved
loop-p-preserved c =
    let turn = kept_turn c.args.unit.now c.args.n c.loop-p.p (omega arith) c.descriptor-d.result c.descriptor-d.ensures c.loop-p.room.low c.loop-p.room.n in
    elim c.if-is_kept.branch [
      | then-is_kept w ↦ rw (w.room-is, w.saturating_sub.ensures, w.size.ensures.0) (omega arith, sym (rw (sym c.is_kept.ensures ∙ w.if-is_kept.true) at turn) ∙ c.loop-p.invariant.1)
      | else-is_kept w ↦ rw w.room-is (omega arith, sym (rw (sym c.is_kept.ensures ∙ w.if-is_kept.false) at turn) ∙ c.loop-p.invariant.1)
    ]

pub returns : goal.returns
returns c = (sym (kept_end c.args.unit.now c.args.n c.loop-p.p (omega arith) c.loop-p.room.low c.loop-p.room.n) ∙ c.loop-p.invariant.1, omega arith)
