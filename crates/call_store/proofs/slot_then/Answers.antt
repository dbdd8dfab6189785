use Prim.Native.Nat.{ℕ, ◌+◌, ◌-◌, ◌%◌}
use native.Mathlib.Omega.{arith}
use mathlib.Core.Path.{ap, ◌∙◌}
use Rattle.rules.specs.Unit.{stands}
use Rattle.unit.specs.BridgeFits.{kept_vacant}
use Rattle.place.specs.Search.{room_once}
use Rattle.place.specs.Laws.{read_by_lem}
use Rattle.call_store.proofs.slot_then.Goals as goal

pub returns : goal.returns
unfolding stands room_once
returns c =
    let read = read_by_lem c.args.g c.args.unit.now c.room_of-room.result c.requires.0 c.room_of-room.ensures.0 in
    let after = c.reclaimed-after.ensures in (
      c.first_unkept.ensures ∙ kept_vacant c.args.g c.args.unit.now c.room_of-room.result read c.reclaimed-after.result after.0 after.1,
      c.saturating_sub.ensures ∙ ap (λ (x : ℕ). x - (c.args.len + c.args.len % 2)) after.0.low,
      omega (arith, c.room_of-room.ensures.1, after.1, after.0.n, c.requires.0.long),
    )
