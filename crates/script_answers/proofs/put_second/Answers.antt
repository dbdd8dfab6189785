use Rattle.std.proofs.Common.{append_assoc}
use Rattle.rules.specs.Text.{text}
use Rattle.script_answers.specs.Result.{pair, second_text}
use Rattle.script_answers.proofs.put_second.Goals as goal

pub returns-clause-text : goal.returns-clause-text
unfolding second_text pair text
returns-clause-text g c = simp (c.put_pair-3.ensures, c.put_pair-2.ensures, c.put_pair.ensures, append_assoc)
