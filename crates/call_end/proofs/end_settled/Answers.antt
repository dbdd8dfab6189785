use Rattle.std.specs.Prelude.{Some}
use mathlib.Core.Path.{sym, ◌∙◌}
use Rattle.rules.specs.Settled.{survey}
use Rattle.rules.specs.Jobs.{commit_job, abort_job}
use Rattle.rules.specs.Calls.{allowance}
use Rattle.rules.specs.Answers.{origin}
use Rattle.call_answer.specs.Laws.{run_within}
use Rattle.call_look.specs.Known.{known_sound, known_few}
use Rattle.step_mount.specs.Lists.{spots, commit_run, abort_run}
use Rattle.call_end.specs.Ends.{commits, aborts, ends, end_none, end_made}
use Rattle.call_end.proofs.end_settled.Goals as goal

pub note_all-requires : goal.note_all-requires
note_all-requires c = (c.requires.homed, known_few c.requires, c.new-index.ensures)

pub returns-then-opened-eq-NOWHERE : goal.returns-then-opened-eq-NOWHERE
returns-then-opened-eq-NOWHERE c = end_none c.requires c.note_all.ensures (ends c.args.ending c.args.allowance) (sym c.from-opened.ensures ∙ c.if-opened-eq-NOWHERE.true)

pub commit-r-requires : goal.commit-r-requires
commit-r-requires c = ((spots c.args.g c.args.image.now c.note_all.new.self c.note_all.ensures).current, rw c.as_slice-pending.ensures.places (spots c.args.g c.args.image.now c.note_all.new.self c.note_all.ensures).pending, rw c.from-opened.ensures (spots c.args.g c.args.image.now c.note_all.new.self c.note_all.ensures).opened)

pub answer_of-requires : goal.answer_of-requires
answer_of-requires c = run_within (commit_job (survey c.args.g c.args.image.now)) c.args.allowance c.args.image.now c.commit-r.new.image c.commit-r.result (commit_run c.args.g c.args.image.now c.note_all.new.self c.note_all.ensures (known_sound c.requires) c.commit-r.new.image c.commit-r.result (Some c.args.allowance) c.from-opened.result c.from-opened.ensures (rw c.as_slice-pending.ensures.places at c.commit-r.ensures))

pub returns-in-Committed : goal.returns-in-Committed
unfolding allowance origin
returns-in-Committed c = rw c.in-Committed.is (end_made c.requires c.note_all.ensures (commits c.args.allowance) (λ z. c.if-opened-eq-NOWHERE.false (c.from-opened.ensures ∙ z)) c.commit-r.new.image c.commit-r.result (commit_run c.args.g c.args.image.now c.note_all.new.self c.note_all.ensures (known_sound c.requires) c.commit-r.new.image c.commit-r.result (Some c.args.allowance) c.from-opened.result c.from-opened.ensures (rw c.as_slice-pending.ensures.places at c.commit-r.ensures)) c.answer_of.result c.answer_of.ensures)

pub abort-r-requires : goal.abort-r-requires
abort-r-requires c = (rw c.as_slice-pending.ensures.places (spots c.args.g c.args.image.now c.note_all.new.self c.note_all.ensures).pending, rw c.from-opened.ensures (spots c.args.g c.args.image.now c.note_all.new.self c.note_all.ensures).opened)

pub answer_of-requires-in-Aborted : goal.answer_of-requires-in-Aborted
answer_of-requires-in-Aborted c = run_within (abort_job (survey c.args.g c.args.image.now)) c.args.allowance c.args.image.now c.abort-r.new.image c.abort-r.result (abort_run c.args.g c.args.image.now c.note_all.new.self c.note_all.ensures (known_sound c.requires) c.abort-r.new.image c.abort-r.result (Some c.args.allowance) c.from-opened.result c.from-opened.ensures (rw c.as_slice-pending.ensures.places at c.abort-r.ensures))

pub returns-in-Aborted : goal.returns-in-Aborted
unfolding allowance origin
returns-in-Aborted c = rw c.in-Aborted.is (end_made c.requires c.note_all.ensures (aborts c.args.allowance) (λ z. c.if-opened-eq-NOWHERE.false (c.from-opened.ensures ∙ z)) c.abort-r.new.image c.abort-r.result (abort_run c.args.g c.args.image.now c.note_all.new.self c.note_all.ensures (known_sound c.requires) c.abort-r.new.image c.abort-r.result (Some c.args.allowance) c.from-opened.result c.from-opened.ensures (rw c.as_slice-pending.ensures.places at c.abort-r.ensures)) c.answer_of-in-Aborted.result c.answer_of-in-Aborted.ensures)
