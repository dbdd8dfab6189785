use Rattle.whole_input.specs.Printing.{prints}
use Rattle.hex_input.specs.Programs.{to_hex}
use Rattle.hex_input.specs.Texts.{to_cut}
use Rattle.to_hex.proofs.print.Goals as goal

pub returns : goal.returns
returns g c = prints to_hex 65556 to_cut c.write_all.result (g.R.Read.remaining c.args.input) (g.W.Write.contents c.args.output.now) _ c.in_ok-read.ensures.bytes c.to_hex-len.ensures.0.text c.write_all.ensures.bytes
