use Rattle.std.proofs.Common.{append_assoc}
use Rattle.rules.specs.Text.{text}
use Rattle.script_answers.specs.Result.{pair, fourth_text}
use Rattle.script_answers.proofs.put_fourth.Goals as goal

pub returns-clause-text : goal.returns-clause-text
unfolding fourth_text pair text
returns-clause-text g c = simp (c.put_keyed.ensures, append_assoc)
