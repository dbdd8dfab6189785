-- A commit stopped anywhere: nothing is done before its first step, and all is committed from it on.
use Rattle.std.specs.Prelude.{Bool, cond, false, not, true, List, [], ◌∷◌, ◌≡◌, ◌<◌, suc, zero, ℕ, ltb, length, Some}
use Rattle.std.proofs.Common.{◌∙◌, ap, subst, sym, arith}
use Rattle.std.proofs.Math.Path.{refl}
use Rattle.std.proofs.Math.Decide.{dec_lt}
use Rattle.rules.specs.Answers.{Outcome, carry_out, ended, given, makes, nothing, origin}
use Rattle.rules.specs.Calls.{allowance, commit, has_none, in_geometry, in_settled, outcome, plan, refuse, when_settled}
use Rattle.rules.specs.Flash.{Bytes, State, Step, apply, idle, is_geometry, made, program, run, state, steps_of}
use Rattle.rules.specs.Jobs.{commit_job}
use Rattle.rules.specs.Lists.{is_none}
use Rattle.rules.specs.Settled.{Entry, Survey, pick, select, survey}
use Rattle.rules.specs.Sound.{standing}
use Rattle.rules.specs.Unit.{is_open}
use Rattle.rules.specs.declared.NotDone.TheVariants.{BadGeometry, NoTransaction}
use Rattle.rules.specs.declared.Geometry.{Geometry}
use Rattle.rules.specs.declared.Handle.{Handle}
use Rattle.rules.specs.declared.Standing.{Standing}
use Rattle.rules.specs.declared.Standing.TheVariants.{Neither, Settled, Sound}
use Rattle.laws.specs.Runs.{made_applied, run_done, run_first, run_first_cut}
use Rattle.theory.specs.Base.Facts.{ltb_of, true_false}
use Rattle.theory.specs.Base.Along.{Along, along_run, image_of, run_stopped}
use Rattle.theory.specs.Images.Model.{all_entries}
use Rattle.theory.specs.Tidying.Sorted.{OrderlyE, Quiet, sorted}
use Rattle.theory.specs.Tidying.Held.{Safe, calm, survey_is}
use Rattle.theory.specs.Mounting.Kept.{KeptImage, calmly, while_moving}
use Rattle.theory.specs.Mounting.KeptMounts.{moving_unsettled}
use Rattle.theory.specs.Meaning.Means.{Keeping}
use Rattle.theory.specs.Meaning.MeansMount.{Inv}
use Rattle.theory.specs.Meaning.MeansEnds.{commit_along, commits}

-- a job whose first step is a step, under an allowance
pub record FirstMade (P : Bytes → Type 0) (s : Bytes) (o : Outcome) : Type 0 where
  pub nothing' : (given o.answer).steps ≡ 0 → o.image ≡ s
  pub something : 0 < (given o.answer).steps → P o.image

first_made : (P : Bytes → Type 0) (h : Handle) (x : Step) (xs : List Step) (s : Bytes) → idle x s ≡ false → Along P (made x s) xs → (k : ℕ) → FirstMade P s (ended h k (run (x ∷ xs) (state s (Some k))))
unfolding ended given nothing
first_made P h x xs s i a zero = subst (λ (r : State). FirstMade P s (ended h zero r)) (sym (run_first_cut x xs s i)) (record { nothing' = λ e. refl; something = λ l. absurd (let z : ⊥ = omega arith in z) })
first_made P h x xs s i a (suc k) = subst (λ (r : State). FirstMade P s (ended h (suc k) r)) (sym (run_first x xs s i k)) (go (dec_lt k (length (steps_of xs (apply x s)))))
  where
    P-of : P (image_of (run xs (state (apply x s) (Some k))))
    P-of = along_run P xs k (apply x s) (subst (λ (u : Bytes). Along P u xs) (made_applied x s i) a)

    go : Dec (k < length (steps_of xs (apply x s))) → FirstMade P s (ended h (suc k) (run xs (state (apply x s) (Some k))))
    go (yes l) = subst (λ (r : State). FirstMade P s (ended h (suc k) r)) (sym (run_stopped xs k (apply x s) l))
        (record { nothing' = λ e. absurd (let z : ⊥ = omega arith in z); something = λ m. subst (λ (r : State). P (image_of r)) (run_stopped xs k (apply x s) l) P-of })
    go (no l) = subst (λ (r : State). FirstMade P s (ended h (suc k) r)) (sym (run_done xs k (apply x s) (omega arith)))
        (record { nothing' = λ e. absurd (let z : ⊥ = omega arith in z); something = λ m. subst (λ (r : State). P (image_of r)) (run_done xs k (apply x s) (omega arith)) P-of })

-- what a commit makes of the plain store
abbrev pub after_commit : Outcome → Keeping → Keeping
after_commit o b = cond (ltb 0 (given o.answer).steps) (commits b) b

module _ (g : Geometry) (b : Keeping) where
  from_first : (s : Bytes) (o : Outcome) → Inv g b s → FirstMade (Inv g (commits b)) s o → Inv g (after_commit o b) o.image
  from_first s o i f = go (dec_lt 0 (given o.answer).steps)
    where
      go : Dec (0 < (given o.answer).steps) → Inv g (after_commit o b) o.image
      go (yes l) = subst (λ (c : Bool). Inv g (cond c (commits b) b) o.image) (sym (ltb_of 0 (given o.answer).steps l)) (f.something l)
      go (no l) = subst (λ (n : ℕ). Inv g (cond (ltb 0 n) (commits b) b) o.image) (sym zero_is) (subst (Inv g b) (sym (f.nothing' zero_is)) i)
        where
          zero_is : (given o.answer).steps ≡ 0
          zero_is = omega (arith, l)

  pub commit_means : (s : Bytes) (k : ℕ) → Inv g b s → Inv g (after_commit (outcome g (commit k) s) b) (outcome g (commit k) s).image
  unfolding is_none carry_out refuse when_settled given nothing has_none select outcome plan in_settled in_geometry allowance
  commit_means s k i = go (is_geometry g (length s)) (standing g (survey g s)) (has_none (survey g s)) refl refl i.kept
    where
      v : Survey
      v = survey g s

      Out : Bool → Standing → Bool → Outcome
      Out x t n = carry_out (refuse (not x) BadGeometry (when_settled t (refuse n NoTransaction (makes origin (commit_job v))))) k s

      one : (h : Safe g s) → Quiet (sorted (all_entries g 0 h.ps)) → (l : List Entry) → pick is_open (all_entries g 0 h.ps) ≡ l → is_none l ≡ false → Inv g (after_commit (Out true Settled false) b) (Out true Settled false).image
      one h c [] q n = true_false true refl n
      one h c (t ∷ []) q n =
          let r = commit_along g b s h i.means c t q in
          from_first s (Out true Settled false) i
          (subst (λ (j : List Step). FirstMade (Inv g (commits b)) s (ended origin k (run j (state s (Some k))))) (sym r.1) (first_made (Inv g (commits b)) origin (program t.place 0xFFF8) r.0 s r.2 r.3 k))
      one h c (t ∷ (u ∷ us)) q n = absurd (let w : ⊥ = omega (arith, ap length q, c.opened) in w)

      go : (x : Bool) (t : Standing) (n : Bool) → standing g (survey g s) ≡ t → has_none (survey g s) ≡ n → KeptImage g s → Inv g (after_commit (Out x t n) b) (Out x t n).image
      go false t n p q w = i
      go true Neither n p q w = i
      go true Sound n p q w = i
      go true Settled true p q w = i
      go true Settled false p q (while_moving m z) = absurd (moving_unsettled g m s z p)
      go true Settled false p q (calmly h) = one h (calm g OrderlyE s h p) (pick is_open (all_entries g 0 h.ps)) refl (sym (ap has_none (survey_is g OrderlyE s h)) ∙ q)
