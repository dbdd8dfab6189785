use Rattle.std.proofs.Common.{append_assoc}
use Rattle.rules.specs.Text.{text}
use Rattle.rules.specs.Listing.{keyed}
use Rattle.listing_text.specs.Lines.{head}
use Rattle.listing_text.proofs.put_head.Goals as goal

pub returns-clause-lines : goal.returns-clause-lines
unfolding text keyed head
returns-clause-lines c = simp (c.put_keyed-4.ensures, c.put_keyed-3.ensures, c.from.ensures, c.put_keyed-2.ensures, c.put_keyed.ensures, c.requires.0, append_assoc)
