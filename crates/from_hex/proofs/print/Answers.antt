use Rattle.whole_input.specs.Printing.{prints}
use Rattle.hex_input.specs.Programs.{from_hex}
use Rattle.hex_input.specs.Texts.{from_cut}
use Rattle.from_hex.proofs.print.Goals as goal

pub returns : goal.returns
returns g c = prints from_hex 196609 from_cut c.write_all.result (g.R.Read.remaining c.args.input) (g.W.Write.contents c.args.output.now) _ c.in_ok-read.ensures.bytes c.from_hex-len.ensures.0.text c.write_all.ensures.bytes
