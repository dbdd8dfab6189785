use Rattle.std.proofs.Common.{◌∙◌}
use Rattle.whole_input.specs.Printing.{prints}
use Rattle.rules.specs.Listing.{listing}
use Rattle.listing_text.specs.Cut.{listing_cut}
use Rattle.listing.proofs.print.Goals as goal

pub returns : goal.returns
returns g c = prints listing 65556 listing_cut c.write_all.result (g.R.Read.remaining c.args.input) (g.W.Write.contents c.args.output.now) _ c.in_ok-read.ensures.bytes (c.as_slice.ensures.value ∙ c.text.ensures) c.write_all.ensures.bytes
