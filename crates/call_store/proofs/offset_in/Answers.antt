use Prim.Native.Nat.{ℕ, ◌+◌, ◌-◌, ◌%◌}
use mathlib.Core.Path.{ap, ◌∙◌}
use Rattle.unit.specs.BridgeFits.{read_gives}
use Rattle.place.specs.Laws.{read_by_lem}
use Rattle.call_store.proofs.offset_in.Goals as goal

pub returns : goal.returns
returns c =
    let read = read_by_lem c.args.g c.args.unit.now c.room_of.result c.requires.0 c.room_of.ensures.0 in
    c.saturating_sub.ensures ∙ ap (λ (x : ℕ). x - (c.args.len + c.args.len % 2)) (read_gives c.args.g c.args.unit.now c.room_of.result read).low
