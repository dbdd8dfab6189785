use Rattle.step_end.specs.Laws.{flags_data, flags_mark}
use mathlib.Core.Path.{sym}
use Rattle.step_end.proofs.new_flags.Goals as goal

pub returns-then-tag-eq-DATA_BYTE : goal.returns-then-tag-eq-DATA_BYTE
returns-then-tag-eq-DATA_BYTE c = sym (flags_data c.args.tag c.if-tag-eq-DATA_BYTE.true)

pub returns-else-tag-eq-DATA_BYTE : goal.returns-else-tag-eq-DATA_BYTE
returns-else-tag-eq-DATA_BYTE c = sym (flags_mark c.args.tag c.if-tag-eq-DATA_BYTE.false)
