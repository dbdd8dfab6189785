use Rattle.table_renew.specs.Lists.{list_law}
use Rattle.table_renew.proofs.listing.list_all.Goals as goal

pub walk-requires : goal.walk-requires
walk-requires c = c.requires.0.homed

pub returns : goal.returns
returns c = rw c.walk.ensures (list_law c.args.g c.args.image.now c.args.home c.requires.0 c.args.laid.now c.requires.1)
