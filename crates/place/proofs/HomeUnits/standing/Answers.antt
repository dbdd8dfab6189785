use mathlib.Core.Path.{◌∙◌}
use Rattle.place.specs.Laws.{told_standing}
use Rattle.place.proofs.HomeUnits.standing.Goals as goal

pub returns : goal.returns
returns c =
    let s = c.args.self.now in
    c.new.ensures ∙ told_standing s.g s.image.now s.table.now c.args.number c.args.e c.unit-unit.result.now c.unit-unit.ensures.whole c.unit-unit.ensures.same c.room_of-room.result c.room_of-room.ensures.0 c.first_empty.result c.first_empty.ensures
