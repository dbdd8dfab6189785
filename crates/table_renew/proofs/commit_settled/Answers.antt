use Rattle.std.specs.Prelude.{Some, Err}
use mathlib.Core.Path.{◌≡◌, sym, ap, ◌∙◌}
use borrow.Author.Tests.{eq-eqb, ne_eqb}
use lib.ListN.{length}
use Rattle.table_renew.specs.Renews.{renewed, mends_none, mends_made, not_done, no_transaction_not_done, meets_reports, refusal_is}
use Rattle.rules.specs.Settled.{survey}
use Rattle.rules.specs.Jobs.{commit_job}
use Rattle.rules.specs.Calls.{commit, allowance}
use Rattle.rules.specs.Answers.{origin}
use Rattle.rules.specs.declared.NotDone.TheVariants.{NoTransaction}
use Rattle.call_answer.specs.Laws.{run_within}
use Rattle.step_mount.specs.Lists.{spots, commit_run}
use Rattle.call_look.specs.Known.{known_sound, known_few}
use Rattle.call_end.specs.Ends.{commits, end_none, end_made}
use borrow.Author.Rules.{rules}
use Rattle.table_renew.proofs.commit_settled.Goals as goal

pub note_all-requires : goal.note_all-requires
note_all-requires c = (c.requires.0.homed, known_few c.requires.0, c.new-index.ensures)

pub returns-then-opened-eq-NOWHERE : goal.returns-then-opened-eq-NOWHERE
returns-then-opened-eq-NOWHERE c = mends_none c.args.g c.args.allowance c.args.image.now c.args.image.now c.refused.result (renewed c.refused.result c.args.laid.now.places) (ap (renewed c.refused.result) c.requires.1) (not_done NoTransaction c.refused.result c.refused.ensures no_transaction_not_done) (meets_reports c.args.g (commit c.args.allowance) c.args.image.now (Err NoTransaction) c.args.image.now c.refused.result (end_none c.requires.0 c.note_all.ensures (commits c.args.allowance) (sym c.from-opened.ensures ∙ c.if-opened-eq-NOWHERE.true)) (refusal_is NoTransaction c.refused.result c.refused.ensures))

pub commit-r-requires : goal.commit-r-requires
commit-r-requires c = ((spots c.args.g c.args.image.now c.note_all.new.self c.note_all.ensures).current, rw c.as_slice-pending.ensures.places (spots c.args.g c.args.image.now c.note_all.new.self c.note_all.ensures).pending, rw c.from-opened.ensures (spots c.args.g c.args.image.now c.note_all.new.self c.note_all.ensures).opened)

pub answer_of-requires : goal.answer_of-requires
answer_of-requires c = run_within (commit_job (survey c.args.g c.args.image.now)) c.args.allowance c.args.image.now c.commit-r.new.image c.commit-r.result (commit_run c.args.g c.args.image.now c.note_all.new.self c.note_all.ensures (known_sound c.requires.0) c.commit-r.new.image c.commit-r.result (Some c.args.allowance) c.from-opened.result c.from-opened.ensures (rw c.as_slice-pending.ensures.places at c.commit-r.ensures))

pub returns-then-report-eq0 : goal.returns-then-report-eq0
unfolding allowance origin
returns-then-report-eq0 c = let l : length c.commit-r.new.image ≡ length c.args.image.now = search rules in mends_made c.args.g c.args.image.now c.requires.0.homed.right c.note_all.ensures.stood c.args.allowance c.commit-r.new.image c.commit-r.result (commit_run c.args.g c.args.image.now c.note_all.new.self c.note_all.ensures (known_sound c.requires.0) c.commit-r.new.image c.commit-r.result (Some c.args.allowance) c.from-opened.result c.from-opened.ensures (rw c.as_slice-pending.ensures.places at c.commit-r.ensures)) l c.note_all.new.self.pending c.note_all.new.self.pending c.reported-report.result c.note_all.ensures.says.few c.note_all.ensures.says.pending (rw (eq-eqb c.reported-report.result.number 0 c.if-report-eq0.true)) (meets_reports c.args.g (commit c.args.allowance) c.args.image.now c.answer_of.result c.commit-r.new.image c.reported-report.result (end_made c.requires.0 c.note_all.ensures (commits c.args.allowance) (λ z. c.if-opened-eq-NOWHERE.false (c.from-opened.ensures ∙ z)) c.commit-r.new.image c.commit-r.result (commit_run c.args.g c.args.image.now c.note_all.new.self c.note_all.ensures (known_sound c.requires.0) c.commit-r.new.image c.commit-r.result (Some c.args.allowance) c.from-opened.result c.from-opened.ensures (rw c.as_slice-pending.ensures.places at c.commit-r.ensures)) c.answer_of.result c.answer_of.ensures) c.reported-report.ensures)

pub returns-else-report-eq0 : goal.returns-else-report-eq0
unfolding allowance origin
returns-else-report-eq0 c = let l : length c.commit-r.new.image ≡ length c.args.image.now = search rules in mends_made c.args.g c.args.image.now c.requires.0.homed.right c.note_all.ensures.stood c.args.allowance c.commit-r.new.image c.commit-r.result (commit_run c.args.g c.args.image.now c.note_all.new.self c.note_all.ensures (known_sound c.requires.0) c.commit-r.new.image c.commit-r.result (Some c.args.allowance) c.from-opened.result c.from-opened.ensures (rw c.as_slice-pending.ensures.places at c.commit-r.ensures)) l c.note_all.new.self.pending c.args.laid.now.places c.reported-report.result c.note_all.ensures.says.few c.note_all.ensures.says.pending (rw (ne_eqb c.reported-report.result.number 0 c.if-report-eq0.false) c.requires.1) (meets_reports c.args.g (commit c.args.allowance) c.args.image.now c.answer_of.result c.commit-r.new.image c.reported-report.result (end_made c.requires.0 c.note_all.ensures (commits c.args.allowance) (λ z. c.if-opened-eq-NOWHERE.false (c.from-opened.ensures ∙ z)) c.commit-r.new.image c.commit-r.result (commit_run c.args.g c.args.image.now c.note_all.new.self c.note_all.ensures (known_sound c.requires.0) c.commit-r.new.image c.commit-r.result (Some c.args.allowance) c.from-opened.result c.from-opened.ensures (rw c.as_slice-pending.ensures.places at c.commit-r.ensures)) c.answer_of.result c.answer_of.ensures) c.reported-report.ensures)
