use Rattle.index.specs.Noted.{index_law}
use Rattle.index.proofs.Index.note_all.Goals as goal

pub returns : goal.returns
returns c = rw (c.walk.ensures, c.requires.2) (index_law c.args.g c.args.image.now c.args.home c.requires.0 c.requires.1)
