use mathlib.Core.Path.{◌∙◌}
use Rattle.place.specs.Laws.{told_once}
use Rattle.place.proofs.HomeUnits.once_reclaimed.Goals as goal

pub returns : goal.returns
returns c =
    let s = c.args.self.now in
    c.new.ensures ∙ told_once s.g s.image.now s.table.now c.args.number c.args.e c.unit-unit.result.now c.unit-unit.ensures.whole c.unit-unit.ensures.same c.room_of.result c.room_of.ensures.0 c.reclaimed-room.result c.first_unkept.result c.reclaimed-room.ensures.0 c.reclaimed-room.ensures.1 c.first_unkept.ensures
