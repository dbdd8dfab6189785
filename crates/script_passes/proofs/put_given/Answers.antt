use Rattle.std.proofs.Common.{sym, [], ◌∷◌}
use Rattle.rules.specs.Text.{text, lf}
use Rattle.script_answers.specs.Result.{pair}
use Rattle.script_passes.specs.Answered.{given_line}
use Rattle.script_passes.specs.Laws.{put_line}
use Rattle.script_passes.proofs.put_given.Goals as goal

pub returns-clause-text : goal.returns-clause-text
unfolding given_line pair text
returns-clause-text g c =
    let r = c.args.r in
    rw (sym c.hash.ensures.value, c.put_keyed.ensures, c.put_pair-3.ensures, c.put_pair-2.ensures, c.put_pair.ensures) (put_line c.args.out.now (pair "number=" r.number) (pair " steps=" r.steps) (pair " pass=" r.pass) (pair " image=" c.hash.result) (lf ∷ []))
