-- The executor: under an allowance of k a job makes exactly the first k steps of its list.
use Rattle.std.specs.Prelude.{◌≡◌, true, false, cond, List, [], ◌∷◌, ◌++◌, ℕ, zero, suc, ◌-◌, ◌≤◌, ◌<◌, length, take, ltb, None, Some}
use Rattle.std.proofs.Math.Path.{refl, ap}
use Rattle.std.proofs.Common.{sym, ap₂, ◌∙◌, arith, lt-ltb, le-ltb, take_all}
use Rattle.std.proofs.Math.Nat.{sub-zero}
use Rattle.std.proofs.Math.Dec.{leb-suc-suc}
use Rattle.rules.specs.Flash.{Bytes, Step, apply, idle, steps_of, made, finish, State, state, step, run, Run}
use Rattle.laws.specs.Tests.{either}

-- Steps applied one after the other.
unfoldable pub applied : List Step → Bytes → Bytes
applied [] s = s
applied (x ∷ xs) s = applied xs (apply x s)

-- What is left of the allowance k by a list of m steps: it is cut exactly where the list is longer.
unfoldable pub left : ℕ → ℕ → Run
left k m = cond (ltb k m) None (Some (k - m))

-- Where the list is longer.
pub left_cut : (k m : ℕ) → k < m → left k m ≡ None
unfolding left
left_cut k m h = rw (lt-ltb k m h)

-- Where it is not.
pub left_going : (k m : ℕ) → m ≤ k → left k m ≡ Some (k - m)
unfolding left
left_going k m h = rw (le-ltb k m h)

left_suc : (k m : ℕ) → left k m ≡ left (suc k) (suc m)
unfolding left
left_suc k m =
    let e : suc k - suc m ≡ k - m = omega arith in
    rw (leb-suc-suc (suc k) m, e)

-- ---- one step
module _ (x : Step) (s : Bytes) where
  -- An idle step changes nothing.
  pub made_idle : idle x s ≡ true → made x s ≡ s
  unfolding made
  made_idle e = rw (e, made)

  -- It is no step of the list.
  pub steps_idle : (xs : List Step) → idle x s ≡ true → steps_of (x ∷ xs) s ≡ steps_of xs s
  unfolding steps_of
  steps_idle xs e = rw (e, steps_of)

  -- It takes nothing of the allowance.
  pub step_idle : (k : ℕ) → idle x s ≡ true → step x (state s (Some k)) ≡ state s (Some k)
  unfolding step
  step_idle k e = rw (e, step)

  -- Any other is applied.
  pub made_applied : idle x s ≡ false → made x s ≡ apply x s
  unfolding made
  made_applied e = rw (e, made)

  -- It is the next step of the list.
  pub steps_applied : (xs : List Step) → idle x s ≡ false → steps_of (x ∷ xs) s ≡ x ∷ steps_of xs (apply x s)
  unfolding steps_of
  steps_applied xs e = rw (e, steps_of)

  -- It takes one of the allowance.
  pub step_applied : (k : ℕ) → idle x s ≡ false → step x (state s (Some (suc k))) ≡ state (apply x s) (Some k)
  unfolding step
  step_applied k e = rw (e, step)

  -- With nothing left of the allowance it cuts the job.
  pub step_cut : idle x s ≡ false → step x (state s (Some 0)) ≡ state s None
  unfolding step
  step_cut e = rw (e, step)

-- A job of no step.
pub run_none : (r : State) → run [] r ≡ r
unfolding run
run_none r = refl

-- Nothing is done after the cut.
pub stays_cut : (xs : List Step) (s : Bytes) → run xs (state s None) ≡ state s None
unfolding run step
stays_cut [] s = refl
stays_cut (x ∷ xs) s = stays_cut xs s

-- A job whose first step is one: with nothing left of the allowance it is cut, else the rest is run from there.
module _ (x : Step) (xs : List Step) (s : Bytes) (e : idle x s ≡ false) where
  pub run_first_cut : run (x ∷ xs) (state s (Some 0)) ≡ state s None
  unfolding run
  run_first_cut = ap (run xs) (step_cut x s e) ∙ stays_cut xs s

  pub run_first : (k : ℕ) → run (x ∷ xs) (state s (Some (suc k))) ≡ run xs (state (apply x s) (Some k))
  unfolding run
  run_first k = ap (run xs) (step_applied x s k e)

-- ---- one job after another

-- A job finished, then another.
pub finish_append : (xs ys : List Step) (s : Bytes) → finish (xs ++ ys) s ≡ finish ys (finish xs s)
unfolding finish
finish_append [] ys s = refl
finish_append (x ∷ xs) ys s = finish_append xs ys (made x s)

-- A job run, then another from where it leaves.
pub run_append : (xs ys : List Step) (r : State) → run (xs ++ ys) r ≡ run ys (run xs r)
unfolding run
run_append [] ys r = refl
run_append (x ∷ xs) ys r = run_append xs ys (step x r)

-- What every step keeps, steps keep.
pub applied_keeps : (P : Bytes → Type 0) → ((x : Step) (s : Bytes) → P s → P (apply x s)) → (xs : List Step) (s : Bytes) → P s → P (applied xs s)
unfolding applied
applied_keeps P f [] s h = h
applied_keeps P f (x ∷ xs) s h = applied_keeps P f xs (apply x s) (f x s h)

-- The list of two jobs: the first one's, then the second one's from where the first leaves the image.
pub steps_append : (xs ys : List Step) (s : Bytes) → steps_of (xs ++ ys) s ≡ steps_of xs s ++ steps_of ys (finish xs s)
unfolding finish
steps_append [] ys s = unfold steps_of in refl
steps_append (x ∷ xs) ys s =
    either (idle x s)
    (λ e. rw (steps_idle x s (xs ++ ys) e, steps_idle x s xs e, made_idle x s e) (steps_append xs ys s))
    (λ e. rw (steps_applied x s (xs ++ ys) e, steps_applied x s xs e, made_applied x s e) (ap {B = List Step} (λ l. x ∷ l) (steps_append xs ys (apply x s))))

-- A finished job leaves what its list makes.
pub finish_steps : (xs : List Step) (s : Bytes) → finish xs s ≡ applied (steps_of xs s) s
unfolding finish applied
finish_steps [] s = unfold steps_of in refl
finish_steps (x ∷ xs) s =
    either (idle x s)
    (λ e. rw (steps_idle x s xs e, made_idle x s e) (finish_steps xs s))
    (λ e. rw (steps_applied x s xs e, made_applied x s e) (finish_steps xs (apply x s)))

-- ---- under an allowance
-- A run gives what the first k steps of the list give; it is cut exactly where k is below the list's length.
pub run_is : (xs : List Step) (k : ℕ) (s : Bytes)
    → run xs (state s (Some k)) ≡ state (applied (take k (steps_of xs s)) s) (left k (length (steps_of xs s)))
unfolding run applied
run_is [] zero s = unfold steps_of in ap (state s) (sym (left_going 0 0 (omega arith)))
run_is [] (suc k) s = unfold steps_of in ap (state s) (sym (left_going (suc k) 0 (omega arith) ∙ ap Some (sub-zero (suc k))))
run_is (x ∷ xs) zero s =
    either (idle x s)
    (λ e. rw (step_idle x s 0 e, steps_idle x s xs e) (run_is xs zero s))
    (λ e. rw (step_cut x s e, steps_applied x s xs e, left_cut 0 (suc (length (steps_of xs (apply x s)))) (omega arith)) (stays_cut xs s))
run_is (x ∷ xs) (suc k) s =
    either (idle x s)
    (λ e. rw (step_idle x s (suc k) e, steps_idle x s xs e) (run_is xs (suc k) s))
    (λ e. rw (step_applied x s k e, steps_applied x s xs e, ← left_suc k (length (steps_of xs (apply x s)))) (run_is xs k (apply x s)))

module _ (xs : List Step) (k : ℕ) (s : Bytes) where
  -- If the list is longer than the allowance, its first steps are made.
  pub run_cut : k < length (steps_of xs s) → run xs (state s (Some k)) ≡ state (applied (take k (steps_of xs s)) s) None
  run_cut h = run_is xs k s ∙ ap (state (applied (take k (steps_of xs s)) s)) (left_cut k (length (steps_of xs s)) h)

  -- With enough allowance the job is finished.
  pub run_done : length (steps_of xs s) ≤ k → run xs (state s (Some k)) ≡ state (finish xs s) (Some (k - length (steps_of xs s)))
  run_done h =
      run_is xs k s
      ∙ ap₂ state (ap (λ (l : List Step). applied l s) (take_all k (steps_of xs s) h) ∙ sym (finish_steps xs s)) (left_going k (length (steps_of xs s)) h)

-- The image of a state.
unfoldable pub image_of : State → Bytes
image_of (state s r) = s
