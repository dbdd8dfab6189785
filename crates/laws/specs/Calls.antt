-- What a call leaves and answers, by its list of steps and its allowance.
use Rattle.std.specs.Prelude.{◌≡◌, ◌≢◌, ◌↔◌, not, List, [], ℕ, ◌≤◌, ◌<◌, min, length, take, drop, Some, None, Ok, Err}
use Rattle.std.proofs.Math.Path.{refl}
use Rattle.std.proofs.Common.{sym, ap, ◌∙◌}
use Rattle.std.proofs.Math.Nat.{min-zero}
use native.Mathlib.Omega.{arith}
use Rattle.std.proofs.Math.Decide.{dec_lt}
use Rattle.std.proofs.Math.Seq.{take-nil}
use Rattle.rules.specs.Flash.{Bytes, Step, is_geometry, steps_of, State, state, run, Run}
use Rattle.rules.specs.Settled.{Entry, Survey, survey}
use Rattle.rules.specs.Sound.{standing}
use Rattle.rules.specs.Jobs.{format_job, mount_job}
use Rattle.rules.specs.Answers.{Outcome, Plan, refuses, makes, shows, number, given, nothing, content, origin, job_of, ended, shown, carry_out, Answer}
use Rattle.rules.specs.Calls.{Call, format, mount, read, read_open, read_at, when_sound, in_geometry, plan, allowance, list_of, outcome}
use Rattle.laws.specs.Runs.{applied, left, left_cut, left_going, run_is, applied_keeps}
use Rattle.laws.specs.Plans.{Planned, refusal, job, entry, planned, refuse_cases, sound_cases, or_refused, in_settled_lem, viewed, handled}
use Rattle.laws.specs.Words.{AreBytes, bytes_apply}
use Rattle.rules.specs.declared.Geometry.{Geometry}
use Rattle.rules.specs.declared.Handle.{Handle}
use Rattle.rules.specs.declared.Origin.{Origin}
use Rattle.rules.specs.declared.Given.{Given}
use Rattle.rules.specs.declared.NotDone.{NotDone}
use Rattle.rules.specs.declared.NotDone.TheVariants.{Stopped, BadGeometry, BadFile, NoTransaction}

-- ---- a plan carried out
-- What the answer says of a list of m steps under the allowance k.
record AnswerTold (k m : ℕ) (a : Answer) : Type 0 where
  steps : (given a).steps ≡ min k m
  stops : number a ≡ 1 ↔ k < m

told_ended : (h : Handle) (k m : ℕ) (s : Bytes) → AnswerTold k m (ended h k (state s (left k m))).answer
told_ended h k m s = go (dec_lt k m)
  where
    go : Dec (k < m) → AnswerTold k m (ended h k (state s (left k m))).answer
    go (yes l) = rw (left_cut k m l) (unfold ended given number nothing in record { steps = omega arith; stops = (λ e. l, λ c. refl) })
    go (no n) =
        let l : m ≤ k = omega arith in
        rw (left_going k m l) (unfold ended given number nothing in record { steps = omega arith; stops = (λ e. omega arith, λ c. absurd (n c)) })

pub image_ended : (h : Handle) (k : ℕ) (s : Bytes) (r : Run) → (ended h k (state s r)).image ≡ s
unfolding ended
image_ended h k s (Some j) = refl
image_ended h k s None = refl

none_told : (k : ℕ) (a : Answer) → (given a).steps ≡ 0 → number a ≢ 1 → AnswerTold k 0 a
none_told k a e n = record { steps = e ∙ sym (min-zero k); stops = (λ q. absurd (n q), λ c. omega arith) }

-- Refusals, 2 and above, give nothing, but may say where from.
pub refused_given : (a : Answer) → 2 ≤ number a → given a ≡ nothing 0 (given a).from
unfolding number given nothing
refused_given (Ok r) h = absurd (omega arith)
refused_given (Err (Stopped k)) h = absurd (omega arith)
refused_given (Err a) h = refl

module _ (g : Geometry) (s : Bytes) (k : ℕ) where
  told : {p : Plan} → Planned g s p → AnswerTold k (length (steps_of (job_of p) s)) (carry_out p k s).answer
  unfolding job_of carry_out steps_of nothing
  told (refusal a h) = none_told k (Err a) (ap (λ (r : Given). r.steps) (refused_given (Err a) h)) (omega arith)
  told (job e h xs j) = rw (run_is xs k s) (told_ended h k (length (steps_of xs s)) _)
  told (entry h f e w) = none_told k (Ok (shown h f e w)) (unfold given shown in refl) (unfold number in omega arith)

image_left : (p : Plan) (k : ℕ) (s : Bytes) → (carry_out p k s).image ≡ applied (take k (steps_of (job_of p) s)) s
unfolding job_of carry_out
image_left (refuses a) k s = unfold steps_of applied in rw (take-nil k)
image_left (makes h xs) k s = rw (run_is xs k s) (image_ended h k (applied (take k (steps_of xs s)) s) (left k (length (steps_of xs s))))
image_left (shows h f e w) k s = unfold steps_of applied in rw (take-nil k)

-- Nothing changed, nothing made, nothing given.
pub record Untouched (s : Bytes) (o : Outcome) : Type 0 where
  pub image : o.image ≡ s
  pub steps : (given o.answer).steps ≡ 0
  pub empty : content o ≡ []

-- What a job ends with is DONE or STOPPED.
pub ended_low : (h : Handle) (k : ℕ) (r : State) → number (ended h k r).answer ≤ 1
unfolding ended number
ended_low h k (state t (Some j)) = omega arith
ended_low h k (state t None) = omega arith

untouched : (g : Geometry) (s : Bytes) (k : ℕ) {p : Plan} → Planned g s p → 2 ≤ number (carry_out p k s).answer → Untouched s (carry_out p k s)
unfolding carry_out number content nothing
untouched g s k (refusal a h) l =
    let e : given (Err a) ≡ nothing 0 (given (Err a)).from = refused_given (Err a) h in
    record { image = refl; steps = ap (λ (r : Given). r.steps) e; empty = ap (λ (r : Given). take r.len (drop r.start s)) e }
untouched g s k (job e h xs j) l = absurd (omega (arith, ended_low h k (run xs (state s (Some k)))))
untouched g s k (entry h f e w) l = absurd (omega arith)

-- ---- every call
module _ (g : Geometry) (c : Call) (s : Bytes) where
  -- The image after a call is what the first steps of its list make, as many as the allowance has.
  pub call_image : (outcome g c s).image ≡ applied (take (allowance c) (list_of g c s)) s
  unfolding outcome list_of
  call_image = image_left (plan g s c) (allowance c) s

  -- It reports the steps that it made.
  pub call_steps : (given (outcome g c s).answer).steps ≡ min (allowance c) (length (list_of g c s))
  unfolding outcome list_of
  call_steps = (told g s (allowance c) (planned g s c)).steps

  -- STOPPED exactly where the list is longer than the allowance.
  pub call_stopped : number (outcome g c s).answer ≡ 1 ↔ allowance c < length (list_of g c s)
  unfolding outcome list_of
  call_stopped = (told g s (allowance c) (planned g s c)).stops

  -- A refused call changes no image byte, makes no step and gives an empty content.
  pub call_refused : 2 ≤ number (outcome g c s).answer → Untouched s (outcome g c s)
  unfolding outcome
  call_refused h = untouched g s (allowance c) (planned g s c) h

  -- The image after a call still consists of bytes.
  pub call_bytes : AreBytes s → AreBytes (outcome g c s).image
  call_bytes h = rw call_image (applied_keeps AreBytes bytes_apply (take (allowance c) (list_of g c s)) s h)

-- ---- reads
-- The calls that read.
pub data ReadingCall : Call → Type 0 where
  reads : (f : ℕ) → ReadingCall (read f)
  reads_open : (f : ℕ) → ReadingCall (read_open f)
  reads_at : (L p : ℕ) → ReadingCall (read_at L p)

-- A read has no step.
pub read_list : (g : Geometry) (s : Bytes) {c : Call} → ReadingCall c → list_of g c s ≡ []
unfolding list_of steps_of
read_list g s {c} r = ap (λ (xs : List Step). steps_of xs s) (go r)
  where
    Idle : Plan → Type 0
    Idle p = job_of p ≡ []

    none : (a : NotDone) → 2 ≤ number (Err a) → Idle (refuses a)
    none a h = unfold job_of in refl

    view : (h : Handle) (f : ℕ) (e : Entry) (w : Origin) → Idle (shows h f e w)
    view h f e w = unfold job_of in refl

    go : {c : Call} → ReadingCall c → Idle (plan g s c)
    go (reads f) = unfold plan number in in_settled_lem Idle none g s _ λ e t. or_refused Idle none g s _ BadFile _ (omega arith) (viewed Idle none g s view _ _)
    go (reads_open f) =
        unfold plan number in
        in_settled_lem Idle none g s _ λ e t.
        or_refused Idle none g s _ BadFile _ (omega arith)
        (or_refused Idle none g s _ NoTransaction _ (omega arith) (viewed Idle none g s view _ _))
    go (reads_at L p) = unfold plan number in in_settled_lem Idle none g s _ λ e t. handled Idle none g s view _

-- ---- tightness
-- What a call's contract says of an outcome: its answer and its image are the definition's.
pub record Meets (g : Geometry) (c : Call) (s : Bytes) (o : Outcome) : Type 0 where
  pub answer : o.answer ≡ (outcome g c s).answer
  pub image : o.image ≡ (outcome g c s).image

-- Two outcomes that meet a call's contract are equal.
pub meets_unique : (g : Geometry) (c : Call) (s : Bytes) (o q : Outcome) → Meets g c s o → Meets g c s q → o ≡ q
meets_unique g c s o q h k = λ i. record { answer = (h.answer ∙ sym k.answer) i; image = (h.image ∙ sym k.image) i }

-- ---- answers by call
AtMost : ℕ → ℕ → Bytes → Plan → Type 0
AtMost m k s p = number (carry_out p k s).answer ≤ m

made_low : (m k : ℕ) (s : Bytes) → 1 ≤ m → (h : Handle) (xs : List Step) → AtMost m k s (makes h xs)
unfolding AtMost carry_out
made_low m k s l h xs = omega (arith, ended_low h k (run xs (state s (Some k))))

module _ (g : Geometry) (k : ℕ) (s : Bytes) where
  -- Format gives only 0, 1, 2.
  pub format_numbers : number (outcome g (format k) s).answer ≤ 2
  unfolding outcome plan allowance in_geometry AtMost carry_out number
  format_numbers =
      refuse_cases (AtMost 2 k s) (not (is_geometry g (length s))) BadGeometry (makes origin (format_job g s)) (omega arith)
      (λ e. made_low 2 k s (omega arith) origin (format_job g s))

  -- Mount gives only 0 to 3.
  pub mount_numbers : number (outcome g (mount k) s).answer ≤ 3
  unfolding outcome plan allowance in_geometry AtMost carry_out number
  mount_numbers =
      refuse_cases (AtMost 3 k s) (not (is_geometry g (length s))) BadGeometry (when_sound (standing g v) (makes origin (mount_job g s v))) (omega arith)
      (λ e. sound_cases (AtMost 3 k s) (standing g v) (makes origin (mount_job g s v)) (omega arith) (made_low 3 k s (omega arith) origin (mount_job g s v)))
    where
      v : Survey
      v = survey g s
