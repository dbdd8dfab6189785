use Rattle.std.proofs.Common.{sym}
use Rattle.rules.specs.Text.{text}
use Rattle.script_looks.specs.Looked.{said, verdict_when}
use Rattle.script_looks.specs.Laws.{verdict_none, verdict_some}
use Rattle.script_looks.proofs.play_judge.Goals as goal

pub returns-in_default-clause-text : goal.returns-in_default-clause-text
unfolding said text
returns-in_default-clause-text g c = rw (sym (verdict_none c.args.g c.args.image.now c.in_default.ensures)) c.put.ensures

pub returns-in-Neither-clause-text : goal.returns-in-Neither-clause-text
unfolding verdict_when said text
returns-in-Neither-clause-text g c = rw (sym (verdict_some c.args.g c.args.image.now c.in-Some.look c.in-Some.ensures), c.in-Neither.is) c.put-in-Neither.ensures

pub returns-in-Sound-clause-text : goal.returns-in-Sound-clause-text
unfolding verdict_when said text
returns-in-Sound-clause-text g c = rw (sym (verdict_some c.args.g c.args.image.now c.in-Some.look c.in-Some.ensures), c.in-Sound.is) c.put-in-Sound.ensures

pub returns-in-Settled-clause-text : goal.returns-in-Settled-clause-text
unfolding verdict_when said text
returns-in-Settled-clause-text g c = rw (sym (verdict_some c.args.g c.args.image.now c.in-Some.look c.in-Some.ensures), c.in-Settled.is) c.put-in-Settled.ensures
