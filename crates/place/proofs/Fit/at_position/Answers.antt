use Rattle.std.proofs.Common.{arith, sym, ap, ◌∙◌, ◌≡◌, true, false}
use Rattle.rules.specs.Unit.{stands, is_empty}
use Rattle.unit.specs.Shapes.{descriptor_at}
use Rattle.place.specs.Laws.{told_used, told_empty, told_end}
use Rattle.place.proofs.Fit.at_position.Goals as goal
use Rattle.place.proofs.Fit.at_position.Goals.{else-at-room-via-then-at-room+else-not-is_empty, else-at-room-via-else-at-room}

pub descriptor-requires : goal.descriptor-requires
unfolding stands
descriptor-requires c = omega (arith, c.requires.0)

pub returns-then-not-is_empty : goal.returns-then-not-is_empty
returns-then-not-is_empty c =
    let d : is_empty (descriptor_at c.args.unit.now (stands c.args.at.position)) ≡ false = sym (ap is_empty c.descriptor.ensures) ∙ sym c.is_empty.ensures ∙ c.if-not-is_empty.true in
    told_used c.args.at.unit c.args.room c.args.unit.now c.args.e c.args.at.position c.if-at-room.true d

pub new-requires : goal.new-requires
unfolding stands
new-requires c = (omega (arith, c.requires.0), c.requires.3)

pub returns : goal.returns
returns c =
    c.new.ensures
    ∙ elim c.else-at-room.branch [
      | else-at-room-via-then-at-room+else-not-is_empty w ↦
          let d : is_empty (descriptor_at c.args.unit.now (stands c.args.at.position)) ≡ true = sym (ap is_empty w.descriptor.ensures) ∙ sym w.is_empty.ensures ∙ w.if-not-is_empty.false in
          told_empty c.args.at.unit c.args.room c.args.unit.now c.args.e c.args.at.position w.if-at-room.true d
      | else-at-room-via-else-at-room w ↦ told_end c.args.at.unit c.args.room c.args.unit.now c.args.e c.args.at.position w.if-at-room.false
    ]
