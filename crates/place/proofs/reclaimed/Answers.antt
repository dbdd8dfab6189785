use native.Mathlib.Omega.{arith}
use Rattle.unit.specs.BridgeFits.{read_in, kept_is}
use Rattle.place.proofs.reclaimed.Goals as goal

pub kept_room-requires : goal.kept_room-requires
kept_room-requires c = let i = read_in c.args.g c.args.unit.now c.args.r c.requires in
    (omega (arith, c.requires.whole), omega (arith, c.requires.whole))

pub returns : goal.returns
returns c = (kept_is c.args.g c.args.unit.now c.args.r c.requires c.kept_room.result c.kept_room.ensures.0, c.kept_room.ensures.1)
