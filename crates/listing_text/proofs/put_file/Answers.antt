use Rattle.std.proofs.Common.{append_assoc}
use Rattle.rules.specs.Text.{text}
use Rattle.listing_text.specs.Lines.{line_of}
use Rattle.listing_text.proofs.put_file.Goals as goal

pub returns : goal.returns
unfolding text line_of
returns c = simp (c.put_keyed.ensures, c.put_pair-3.ensures, c.put_pair-2.ensures, c.put_pair.ensures, append_assoc)
