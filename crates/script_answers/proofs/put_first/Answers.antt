use Rattle.rules.specs.Text.{text}
use Rattle.script_answers.specs.Result.{pair, first_text}
use Rattle.script_answers.specs.Laws.{put_four}
use Rattle.script_answers.proofs.put_first.Goals as goal

pub returns-clause-text : goal.returns-clause-text
unfolding first_text pair text
returns-clause-text g c =
    let r = c.args.r in
    rw (c.put_pair-4.ensures, c.put_pair-3.ensures, c.put_pair-2.ensures, c.put_pair.ensures) (put_four c.args.out.now (pair "number=" r.number) (pair " steps=" r.steps) (pair " at=" r.unit) (pair ":" r.position))
