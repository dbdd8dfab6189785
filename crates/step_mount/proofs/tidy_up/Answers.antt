use Rattle.step_mount.specs.Lists.{spots, tidy_run}
use Rattle.step_mount.proofs.tidy_up.Goals as goal

pub note_all-requires : goal.note_all-requires
note_all-requires c = (c.requires.homed, c.requires.few, c.new-index.ensures)

pub tidy-requires : goal.tidy-requires
tidy-requires c =
    let k = spots c.args.g c.args.image.now c.note_all.new.self c.note_all.ensures in
    (k.current, rw c.as_slice.ensures.places k.pending, rw c.from.ensures k.torn, rw c.from-2.ensures k.allocated, rw c.from-3.ensures k.opened, rw c.from-4.ensures k.committed)

pub returns : goal.returns
returns c = tidy_run c.args.g c.args.image.now c.note_all.new.self c.note_all.ensures c.requires.sound c.tidy.new.image c.tidy.result c.args.was c.from-3.result c.from-3.ensures c.from.result c.from-2.result c.from-4.result c.from.ensures c.from-2.ensures c.from-4.ensures (rw c.as_slice.ensures.places at c.tidy.ensures)
