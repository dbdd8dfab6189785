use Rattle.std.proofs.Common.{sym, ◌∙◌, length}
use Rattle.rules.specs.Unit.{stands}
use Rattle.unit.specs.Shapes.{earlier}
use Rattle.unit.specs.Apart.{earlier_next, lowest_next}
use Rattle.unit.specs.LoopTurns.{ok_wrong, ok_overlap, ok_turn}
use Rattle.home.proofs.are_placed.Goals as goal
use Rattle.home.proofs.are_placed.Goals.{then-is_right, else-is_right}

pub returns-then-not-is_alone : goal.returns-then-not-is_alone
returns-then-not-is_alone c =
    let u = c.args.unit.now in
    let p = c.loop-p.p in
    elim c.if-is_right.branch [
      | then-is_right w ↦
          sym (ok_overlap u c.args.n p c.loop-p-test.true c.descriptor-d.result c.descriptor-d.ensures c.args.g (stands c.args.n) (earlier p u) (rw c.stands-floor.ensures at (sym c.is_right.ensures ∙ w.if-is_right.true)) (sym w.is_alone.ensures ∙ sym w.value-is ∙ c.if-not-is_alone.true))
          ∙ c.loop-p.invariant.1
      | else-is_right w ↦
          sym (ok_wrong u c.args.n p c.loop-p-test.true c.descriptor-d.result c.descriptor-d.ensures c.args.g (stands c.args.n) (earlier p u) (rw c.stands-floor.ensures at (sym c.is_right.ensures ∙ w.if-is_right.false)))
          ∙ c.loop-p.invariant.1
    ]

pub loop-p-preserved : goal.loop-p-preserved
loop-p-preserved c =
    let u = c.args.unit.now in
    let p = c.loop-p.p in
    elim c.if-is_right.branch [
      | then-is_right w ↦ (
        c.lower-lowest.ensures ∙ rw c.loop-p.invariant.0 (sym (lowest_next u p c.descriptor-d.result c.descriptor-d.ensures (length u))),
        rw (earlier_next u p c.descriptor-d.result c.descriptor-d.ensures)
            (sym (ok_turn u c.args.n p c.loop-p-test.true c.descriptor-d.result c.descriptor-d.ensures c.args.g (stands c.args.n) (earlier p u) (rw c.stands-floor.ensures at (sym c.is_right.ensures ∙ w.if-is_right.true)) (sym w.is_alone.ensures ∙ sym w.value-is ∙ c.if-not-is_alone.false)) ∙ c.loop-p.invariant.1),
      )
      | else-is_right w ↦ cc
    ]
