use Rattle.index_seek.specs.Seeking.{pending_inside, seek_law}
use Rattle.index_seek.proofs.seek.Goals as goal

pub shown_by-requires : goal.shown_by-requires
shown_by-requires c = rw c.walk.ensures (pending_inside c.args.g c.args.image.now c.args.home c.requires c.args.file)

pub returns : goal.returns
returns c = rw c.walk.ensures (seek_law c.args.g c.args.image.now c.args.home c.requires c.args.file c.shown_by.result (rw (← c.walk.ensures) c.shown_by.ensures))
