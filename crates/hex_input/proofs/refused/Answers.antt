use Rattle.std.proofs.Common.{refl, ap, sym, ◌∙◌, length}
use Rattle.rules.specs.Text.{text}
use Rattle.rules.specs.Listing.{keyed}
use Rattle.hex_input.specs.Programs.{refusal}
use Rattle.hex_input.specs.Texts.{printed_first}
use Rattle.hex_input.proofs.refused.Goals as goal

pub returns : goal.returns
unfolding text keyed refusal
returns c =
    printed_first c.copy_from_slice.new.self _ _
    (c.copy_from_slice.ensures.after ∙ c.as_slice.ensures.value ∙ c.put_keyed.ensures ∙ rw (c.new-line.ensures, c.from.ensures) refl)
    (c.len-2.ensures.value ∙ ap length (sym (c.copy_from_slice.ensures.after ∙ c.as_slice.ensures.value)))
