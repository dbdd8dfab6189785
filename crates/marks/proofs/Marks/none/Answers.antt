use Rattle.marks.specs.Bits.{bits_none}
use Rattle.marks.proofs.Marks.none.Goals as goal

pub returns : goal.returns
returns g c = bits_none g.row.N
