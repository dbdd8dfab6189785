use Rattle.std.proofs.Common.{sym}
use Rattle.script_answers.specs.Result.{first_text, second_text, third_text, fourth_text, result_line}
use Rattle.script_answers.specs.Laws.{put_four}
use Rattle.script_answers.proofs.put_result.Goals as goal

pub returns-clause-text : goal.returns-clause-text
unfolding result_line
returns-clause-text g c =
    let r = c.reported-r.result in
    rw (sym c.reported-r.ensures, c.put_fourth.ensures.text, c.put_third.ensures.text, c.put_second.ensures.text, c.put_first.ensures.text) (put_four c.args.out.now (first_text r) (second_text r) (third_text c.args.a c.args.image.now) (fourth_text r))
