use Rattle.rules.specs.Text.{text}
use Rattle.rules.specs.Listing.{keyed}
use Rattle.pass_rules.specs.Texts.{register_text}
use Rattle.pass_text.proofs.register_of.Goals as goal

pub returns : goal.returns
unfolding text keyed register_text
returns c = rw (c.put_keyed.ensures, c.new-text.ensures)
