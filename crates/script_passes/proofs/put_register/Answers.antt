use Rattle.std.proofs.Common.{append_assoc}
use Rattle.rules.specs.Text.{text}
use Rattle.script_answers.specs.Result.{pair}
use Rattle.script_passes.specs.Answered.{register_line}
use Rattle.script_passes.proofs.put_register.Goals as goal

pub returns-clause-text : goal.returns-clause-text
unfolding register_line pair text
returns-clause-text g c = simp (c.put_keyed.ensures, c.put_pair.ensures, append_assoc)
