use Rattle.std.proofs.Common.{[], ◌∷◌}
use Rattle.rules.specs.Text.{text, lf}
use Rattle.script_answers.specs.Result.{pair}
use Rattle.script_passes.specs.Answered.{staff_line}
use Rattle.script_passes.specs.Laws.{put_line}
use Rattle.script_passes.proofs.put_staff.Goals as goal

pub returns-clause-text : goal.returns-clause-text
unfolding staff_line pair text
returns-clause-text g c =
    let r = c.args.r in
    rw (c.put_keyed.ensures, c.put_pair-3.ensures, c.put_pair-2.ensures, c.put_pair.ensures) (put_line c.args.out.now (pair "number=" r.number) (pair " night=" r.night) (pair " zone=" r.zone) (pair " people=" r.people) (lf ∷ []))
