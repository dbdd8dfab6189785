-- What format, commit and abort refuse, and what they do else.
use Rattle.std.specs.Prelude.{◌≡◌, refl, true, false, List, ℕ, length, Some, Err}
use Rattle.std.proofs.Common.{◌∙◌, eq-eqb, ne_eqb}
use Rattle.rules.specs.Flash.{Bytes, Step, is_geometry, state, run, Run}
use Rattle.rules.specs.Settled.{Survey, survey}
use Rattle.rules.specs.Jobs.{format_job, commit_job, abort_job}
use Rattle.rules.specs.Answers.{Plan, makes, origin, Answer}
use Rattle.rules.specs.Calls.{Call, format, commit, abort, refuse, has_none, in_settled, plan, allowance}
use Rattle.rules.specs.declared.Geometry.{Geometry}
use Rattle.rules.specs.declared.NotDone.TheVariants.{BadGeometry, NoTransaction}
use Rattle.call_answer.specs.Ends.{answer_of}
use Rattle.call_answer.specs.Laws.{MeetsCall, refused, made}
use Rattle.call_look.specs.Guards.{outside, inside, refuse_true, refuse_false}
use Rattle.call_look.specs.Known.{Known, known_plan}
use Rattle.call_end.specs.declared.Ending.{Ending}
use Rattle.call_end.specs.declared.Ending.TheVariants.{Committed, Aborted}
use Rattle.index.specs.declared.Index.{Index}
use Rattle.index.specs.Shapes.{Indexed}
use Rattle.index.specs.Views.{none_open}

-- ---- format
module _ (g : Geometry) (s : Bytes) (k : ℕ) where
  pub format_refused : is_geometry g (length s) ≡ false → MeetsCall g (format k) s (Err BadGeometry) s
  format_refused e = refused g s (format k) BadGeometry (unfold plan in outside g s (makes origin (format_job g s)) e)

  pub format_made : is_geometry g (length s) ≡ true → (t : Bytes) (r : Run) → state t r ≡ run (format_job g s) (state s (Some k))
      → (a : Answer) → a ≡ answer_of origin k r → MeetsCall g (format k) s a t
  unfolding allowance
  format_made e = made g s (format k) origin (format_job g s) (unfold plan in inside g s (makes origin (format_job g s)) e)

-- ---- commit and abort
pub data EndingCall : Call → (Survey → List Step) → Type 0 where
  commits : (k : ℕ) → EndingCall (commit k) commit_job
  aborts : (k : ℕ) → EndingCall (abort k) abort_job

-- the call that makes this ending
abbrev pub end_call : Ending → ℕ → Call
end_call Committed k = commit k
end_call Aborted k = abort k

abbrev pub end_job : Ending → Survey → List Step
end_job Committed = commit_job
end_job Aborted = abort_job

pub ends : (e : Ending) (k : ℕ) → EndingCall (end_call e k) (end_job e)
ends Committed k = commits k
ends Aborted k = aborts k

abbrev ending : (Survey → List Step) → Survey → Plan
ending job v = refuse (has_none v) NoTransaction (makes origin (job v))

plan_is : (g : Geometry) (s : Bytes) {c : Call} {job : Survey → List Step} → EndingCall c job → plan g s c ≡ in_settled g s (ending job)
unfolding plan
plan_is g s (commits k) = refl
plan_is g s (aborts k) = refl

module _ {g : Geometry} {s : Bytes} {home : List ℕ} (known : Known g s home) {i : Index} (x : Indexed g s i) {c : Call} {job : Survey → List Step} (n : EndingCall c job) where
  abbrev v : Survey
  v = survey g s

  plan_known : plan g s c ≡ ending job v
  plan_known = plan_is g s n ∙ known_plan known (ending job)

  pub end_none : i.opened ≡ 0 → MeetsCall g c s (Err NoTransaction) s
  end_none z = refused g s c NoTransaction (plan_known ∙ refuse_true (has_none v) NoTransaction (makes origin (job v)) (none_open g s i x ∙ eq-eqb i.opened 0 z))

  pub end_made : (i.opened ≡ 0 → ⊥) → (t : Bytes) (r : Run) → state t r ≡ run (job v) (state s (Some (allowance c)))
      → (a : Answer) → a ≡ answer_of origin (allowance c) r → MeetsCall g c s a t
  end_made z = made g s c origin (job v) (plan_known ∙ refuse_false (has_none v) NoTransaction (makes origin (job v)) (none_open g s i x ∙ ne_eqb i.opened 0 z))
