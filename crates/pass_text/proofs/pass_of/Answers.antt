use Rattle.std.proofs.Common.{append_assoc}
use Rattle.rules.specs.Text.{text}
use Rattle.rules.specs.Listing.{keyed}
use Rattle.pass_rules.specs.Texts.{pass_text}
use Rattle.pass_text.proofs.pass_of.Goals as goal

pub returns : goal.returns
unfolding text keyed pass_text
returns c = simp (c.put_keyed-3.ensures, c.put_keyed-2.ensures, c.put_keyed.ensures, c.new-text.ensures, append_assoc)
