use Rattle.std.proofs.Common.{◌∙◌}
use Rattle.listing_text.specs.Input.{listing_bad, listing_image}
use Rattle.listing_text.proofs.text.Goals as goal

pub returns-in-None : goal.returns-in-None
returns-in-None c = c.refused.ensures ∙ listing_bad c.args.input.now c.in-None.ensures

pub returns-in-Some : goal.returns-in-Some
returns-in-Some c = c.list.ensures ∙ listing_image c.args.input.now c.header.new.input.now c.in-Some.geometry c.in-Some.ensures
