-- A call's two equations, of its answer and its image: from its plan, and from how its job was run.
use Rattle.std.specs.Prelude.{Err, ◌≡◌, refl, List, ℕ, ◌≤◌, ◌<◌, ◌-◌, length, None, Some}
use Rattle.std.proofs.Math.Path.{sym, ap}
use Rattle.std.proofs.Common.{◌∙◌, arith}
use Rattle.std.proofs.Math.Decide.{dec_lt}
use Rattle.rules.specs.Flash.{Bytes, Step, steps_of, state, run, Run}
use Rattle.rules.specs.Answers.{Outcome, Plan, refuses, makes, ended, carry_out, Answer}
use Rattle.rules.specs.Calls.{Call, plan, allowance, outcome}
use Rattle.laws.specs.Calls.{image_ended}
use Rattle.laws.specs.Runs.{left, left_cut, left_going, run_is}
use Rattle.rules.specs.declared.Geometry.{Geometry}
use Rattle.rules.specs.declared.NotDone.{NotDone}
use Rattle.rules.specs.declared.Handle.{Handle}
use Rattle.call_answer.specs.Ends.{AllowanceWithin, answer_of}

-- the reader's answer, whatever the image
pub answer_is : (h : Handle) (k : ℕ) (s : Bytes) (r : Run) → (ended h k (state s r)).answer ≡ answer_of h k r
unfolding ended answer_of
answer_is h k s (Some j) = refl
answer_is h k s None = refl

left_within : (k m : ℕ) → AllowanceWithin k (left k m)
left_within k m j e = go (dec_lt k m)
  where
    go : Dec (k < m) → j ≤ k
    go (yes l) =
        let q : left k m ≡ None = left_cut k m l in
        let z : ◌≡◌ {A = ℕ} 0 1 = cc in
        absurd (omega arith)
    go (no n) =
        let q : left k m ≡ Some (k - m) = left_going k m (omega arith) in
        let z : j ≡ k - m = cc in
        omega arith

-- a run leaves not more of its allowance than it had
pub run_within : (xs : List Step) (k : ℕ) (s t : Bytes) (r : Run) → state t r ≡ run xs (state s (Some k)) → AllowanceWithin k r
run_within xs k s t r e j q =
    let m = length (steps_of xs s) in
    let z : r ≡ left k m = go (e ∙ run_is xs k s) in
    left_within k m j (sym z ∙ q)
  where
    go : {x y : Bytes} {a b : Run} → state x a ≡ state y b → a ≡ b
    go p = cc

-- an answer and an image are those of a call on the image s
abbrev pub MeetsCall : Geometry → Call → Bytes → Answer → Bytes → Type 0
MeetsCall g c s a t = (a ≡ (outcome g c s).answer) × (t ≡ (outcome g c s).image)

module _ (g : Geometry) (s : Bytes) (c : Call) where
  -- a call that is refused
  pub refused : (a : NotDone) → plan g s c ≡ refuses a → MeetsCall g c s (Err a) s
  unfolding outcome carry_out
  refused a p = (sym (ap (λ (q : Plan). (carry_out q (allowance c) s).answer) p), sym (ap (λ (q : Plan). (carry_out q (allowance c) s).image) p))

  -- a call whose job is run
  pub made : (h : Handle) (job : List Step) → plan g s c ≡ makes h job → (t : Bytes) (r : Run) → state t r ≡ run job (state s (Some (allowance c)))
      → (a : Answer) → a ≡ answer_of h (allowance c) r → MeetsCall g c s a t
  unfolding outcome carry_out
  made h job p t r e a q =
      let o : outcome g c s ≡ ended h (allowance c) (state t r) = ap (λ (x : Plan). carry_out x (allowance c) s) p ∙ ap (ended h (allowance c)) (sym e) in (
        q ∙ sym (answer_is h (allowance c) t r) ∙ sym (ap (λ (x : Outcome). x.answer) o),
        sym (image_ended h (allowance c) t r) ∙ sym (ap (λ (x : Outcome). x.image) o),
      )
