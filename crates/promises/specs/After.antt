-- What a call makes of the plain store, by its number: what the plain call gives.
use Rattle.std.proofs.Math.Bool.{Bool, cond, true}
use Rattle.std.specs.Prelude.{false, not, List, [], ◌∷◌, ◌≡◌, ◌<◌, ◌≤◌, suc, zero, ℕ, eqb, ltb, length, Some}
use Rattle.std.proofs.Math.Option.{none, some}
use Rattle.std.proofs.Common.{◌∙◌, subst, arith}
use Rattle.std.proofs.Math.Path.{ap, refl, sym}
use Rattle.std.proofs.Math.Decide.{dec_lt, ℕ_discrete}
use Rattle.rules.specs.Answers.{Outcome, carry_out, ended, given, makes, nothing, number, origin}
use Rattle.rules.specs.Calls.{Call, abort, allowance, begin, commit, delete, format, has_none, in_geometry, in_settled, mount, outcome, plan, read, read_at, read_open, refuse, when_settled, write}
use Rattle.rules.specs.Flash.{Bytes, State, Step, apply, finish, idle, is_geometry, program, run, state, steps_of}
use Rattle.rules.specs.Histories.{Plain, begun, changed_to, committed, dropped, ended_in, follow, is_done, is_format}
use Rattle.rules.specs.Jobs.{abort_job, commit_job}
use Rattle.laws.specs.Calls.{call_refused, call_steps, call_stopped}
use Rattle.laws.specs.Runs.{run_done, run_first, run_first_cut}
use Rattle.rules.specs.Lists.{is_none}
use Rattle.rules.specs.Plain.{cut_short, ends_in, plain_after, plainly, seen}
use Rattle.rules.specs.Settled.{Entry, pick, select, survey}
use Rattle.rules.specs.Sound.{standing}
use Rattle.rules.specs.Unit.{is_open}
use Rattle.rules.specs.declared.NotDone.TheVariants.{BadGeometry, NoTransaction}
use Rattle.rules.specs.declared.Geometry.{Geometry}
use Rattle.rules.specs.declared.Handle.{Handle}
use Rattle.rules.specs.declared.Standing.{Standing}
use Rattle.rules.specs.declared.Standing.TheVariants.{Neither, Settled, Sound}
use Rattle.theory.specs.Base.Facts.{differ, ltb_of, true_false}
use Rattle.theory.specs.Base.Along.{run_stopped}
use Rattle.theory.specs.Images.Model.{all_entries}
use Rattle.theory.specs.Tidying.Flat.{Finishes, finishes}
use Rattle.theory.specs.Tidying.Sorted.{OrderlyE, Quiet, SameE, Sorted, sorted, tidying}
use Rattle.theory.specs.Tidying.Tidy.{next, tidied}
use Rattle.theory.specs.Tidying.Held.{HeldEntries, Safe, along_held, calm, held_same, survey_is}
use Rattle.theory.specs.Tidying.Ends.{abort_job_lem}
use Rattle.theory.specs.Mounting.Kept.{KeptImage, calmly, while_moving}
use Rattle.theory.specs.Mounting.KeptMounts.{moving_unsettled}
use Rattle.theory.specs.Meaning.Means.{Keeping, means_same}
use Rattle.theory.specs.Meaning.MeansMount.{Inv, held_lists, lists_of}
use Rattle.theory.specs.Meaning.MeansEnds.{commit_along}
use Rattle.theory.specs.Promised.Histories.{Holds, plain, plain_open}
use Rattle.theory.specs.Promised.Demanded.{kept_settles}
use Rattle.theory.specs.Promised.Finished.{done_image}
use Rattle.promises.specs.Answered.{as_plain_lem}

-- ---- a DONE job has made its first step, where that is one
first_counts : (h : Handle) (x : Step) (xs : List Step) (s : Bytes) → idle x s ≡ false → (k : ℕ) → number (ended h k (run (x ∷ xs) (state s (Some k)))).answer ≡ 0 → 0 < (given (ended h k (run (x ∷ xs) (state s (Some k)))).answer).steps
unfolding ended number given nothing
first_counts h x xs s i zero z = absurd (let w : ⊥ = omega (arith, sym z ∙ ap (λ (r : State). number (ended h zero r).answer) (run_first_cut x xs s i)) in w)
first_counts h x xs s i (suc k) z = subst (λ (r : State). 0 < (given (ended h (suc k) r).answer).steps) (sym (run_first x xs s i k)) (go (dec_lt k (length (steps_of xs (apply x s)))))
  where
    go : Dec (k < length (steps_of xs (apply x s))) → 0 < (given (ended h (suc k) (run xs (state (apply x s) (Some k)))).answer).steps
    go (yes l) = subst (λ (r : State). 0 < (given (ended h (suc k) r).answer).steps) (sym (run_stopped xs k (apply x s) l)) (omega arith)
    go (no l) = subst (λ (r : State). 0 < (given (ended h (suc k) r).answer).steps) (sym (run_done xs k (apply x s) (omega arith))) (omega arith)

module _ (g : Geometry) (s : Bytes) where
  -- a DONE abort leaves none open
  pub abort_closes : (k : ℕ) → KeptImage g s → number (outcome g (abort k) s).answer ≡ 0 → has_none (survey g (outcome g (abort k) s).image) ≡ true
  unfolding ended carry_out refuse when_settled number has_none is_none select pick outcome plan in_settled in_geometry allowance
  abort_closes k w z = go (is_geometry g (length s)) (standing g (survey g s)) (has_none (survey g s)) refl w z
    where
      Out : Bool → Standing → Bool → Outcome
      Out x t n = carry_out (refuse (not x) BadGeometry (when_settled t (refuse n NoTransaction (makes origin (abort_job (survey g s)))))) k s

      one : (h : Safe g s) → Quiet (sorted (all_entries g 0 h.ps)) → number (Out true Settled false).answer ≡ 0 → has_none (survey g (Out true Settled false).image) ≡ true
      one h c z =
          ap (λ (x : Bytes). has_none (survey g x)) (done_image origin (abort_job (survey g s)) k s z ∙ ap (λ (j : List Step). finish j s) (abort_job_lem g s h c))
          ∙ ap (λ (l : Sorted). is_none l.opened) (held_lists g (λ l. l ≡ F.last) (finish (tidying (all_entries g 0 h.ps)) s) there ∙ ap sorted there.holds)
          ∙ ap is_none (tidied (sorted F.last) F.holds F.none).opened
        where
          F : Finishes OrderlyE SameE tidying (all_entries g 0 h.ps)
          F = finishes OrderlyE SameE tidying next (all_entries g 0 h.ps) h.holds

          there : HeldEntries g (λ l. l ≡ F.last) (finish (tidying (all_entries g 0 h.ps)) s)
          there = (along_held g OrderlyE F.turns s (held_same g OrderlyE s h)).1

      go : (x : Bool) (t : Standing) (n : Bool) → standing g (survey g s) ≡ t → KeptImage g s → number (Out x t n).answer ≡ 0 → has_none (survey g (Out x t n).image) ≡ true
      go false t n p w z = absurd (let y : ⊥ = omega arith in y)
      go true Neither n p w z = absurd (let y : ⊥ = omega arith in y)
      go true Sound n p w z = absurd (let y : ⊥ = omega arith in y)
      go true Settled true p w z = absurd (let y : ⊥ = omega arith in y)
      go true Settled false p (while_moving m r) z = absurd (moving_unsettled g m s r p)
      go true Settled false p (calmly h) z = one h (calm g OrderlyE s h p) z

  -- a DONE commit has made its commit step
  pub commit_steps : (k : ℕ) (b : Keeping) → Inv g b s → number (outcome g (commit k) s).answer ≡ 0 → 0 < (given (outcome g (commit k) s).answer).steps
  unfolding is_none ended carry_out refuse when_settled number given nothing outcome plan in_settled in_geometry allowance has_none select
  commit_steps k b i z = go (is_geometry g (length s)) (standing g (survey g s)) (has_none (survey g s)) refl refl i.kept z
    where
      Out : Bool → Standing → Bool → Outcome
      Out x t n = carry_out (refuse (not x) BadGeometry (when_settled t (refuse n NoTransaction (makes origin (commit_job (survey g s)))))) k s

      one : (h : Safe g s) → Quiet (sorted (all_entries g 0 h.ps)) → (l : List Entry) → pick is_open (all_entries g 0 h.ps) ≡ l → is_none l ≡ false → number (Out true Settled false).answer ≡ 0 → 0 < (given (Out true Settled false).answer).steps
      one h c [] q n z = true_false true refl n
      one h c (t ∷ []) q n z =
          let r = commit_along g b s h i.means c t q in
          subst (λ (j : List Step). number (ended origin k (run j (state s (Some k)))).answer ≡ 0 → 0 < (given (ended origin k (run j (state s (Some k)))).answer).steps) (sym r.1) (first_counts origin (program t.place 0xFFF8) r.0 s r.2 k) z
      one h c (t ∷ (u ∷ us)) q n z = absurd (let w : ⊥ = omega (arith, ap length q, c.opened) in w)

      go : (x : Bool) (t : Standing) (n : Bool) → standing g (survey g s) ≡ t → has_none (survey g s) ≡ n → KeptImage g s → number (Out x t n).answer ≡ 0 → 0 < (given (Out x t n).answer).steps
      go false t n p q w z = absurd (let y : ⊥ = omega arith in y)
      go true Neither n p q w z = absurd (let y : ⊥ = omega arith in y)
      go true Sound n p q w z = absurd (let y : ⊥ = omega arith in y)
      go true Settled true p q w z = absurd (let y : ⊥ = omega arith in y)
      go true Settled false p q (while_moving m r) z = absurd (moving_unsettled g m s r p)
      go true Settled false p q (calmly h) z = one h (calm g OrderlyE s h p) (pick is_open (all_entries g 0 h.ps)) refl (sym (ap has_none (survey_is g OrderlyE s h)) ∙ q) z

-- ---- DONE, STOPPED or refused
three : (n : ℕ) (x y m z : Plain) → (n ≡ 0 → z ≡ x) → (n ≡ 1 → z ≡ y) → (2 ≤ n → z ≡ m) → z ≡ cond (eqb n 0) x (cond (eqb n 1) y m)
three n x y m z a b c = go (ℕ_discrete n 0) (ℕ_discrete n 1)
  where
    go : Dec (n ≡ 0) → Dec (n ≡ 1) → z ≡ cond (eqb n 0) x (cond (eqb n 1) y m)
    go (yes e) r = a e ∙ sym (ap (λ (i : ℕ). cond (eqb i 0) x (cond (eqb i 1) y m)) e)
    go (no d) (yes e) = b e ∙ sym (ap (λ (i : ℕ). cond (eqb i 0) x (cond (eqb i 1) y m)) e)
    go (no d) (no e) = c (omega arith) ∙ sym (ap (λ (i : Bool). cond i x (cond (eqb n 1) y m)) (differ d) ∙ ap (λ (i : Bool). cond i y m) (differ e))

-- only where it is DONE
only_done : (n : ℕ) (x m : Plain) → cond (eqb n 0) x m ≡ cond (eqb n 0) x (cond (eqb n 1) m m)
only_done n x m = three n x m m (cond (eqb n 0) x m) (λ e. ap (λ (i : ℕ). cond (eqb i 0) x m) e) (λ e. ap (λ (i : ℕ). cond (eqb i 0) x m) e) (λ l. ap (λ (i : Bool). cond i x m) (differ (λ (e : n ≡ 0). let w : ⊥ = omega arith in w)))

never : (n : ℕ) (m : Plain) → m ≡ cond (eqb n 0) m (cond (eqb n 1) m m)
never n m = three n m m m m (λ e. refl) (λ e. refl) (λ l. refl)

module _ (g : Geometry) (s : Bytes) (b : Keeping) (i : Inv g b s) where
  -- a refused abort or mount leaves the transaction as it was
  still : (c : Call) → 2 ≤ number (outcome g c s).answer → cond (has_none (survey g (outcome g c s).image)) (dropped (plain b)) (plain b) ≡ plain b
  unfolding select has_none
  still c l =
      ap (λ (x : Bytes). cond (has_none (survey g x)) (dropped (plain b)) (plain b)) (call_refused g c s l).image
      ∙ sym (plain_open b (select is_open (survey g s)))
      ∙ ap plain (means_same b (lists_of g s) i.means)

  ends : (c : Call) → (number (outcome g c s).answer ≡ 0 → has_none (survey g (outcome g c s).image) ≡ true)
      → cond (has_none (survey g (outcome g c s).image)) (dropped (plain b)) (plain b)
      ≡ cond (eqb (number (outcome g c s).answer) 0) (dropped (plain b)) (cond (eqb (number (outcome g c s).answer) 1) (cond (has_none (survey g (outcome g c s).image)) (dropped (plain b)) (plain b)) (plain b))
  ends c done =
      three (number (outcome g c s).answer) (dropped (plain b)) (cond (has_none (survey g (outcome g c s).image)) (dropped (plain b)) (plain b)) (plain b) (cond (has_none (survey g (outcome g c s).image)) (dropped (plain b)) (plain b))
      (λ e. ap (λ (x : Bool). cond x (dropped (plain b)) (plain b)) (done e)) (λ e. refl) (still c)

  mount_closes : (k : ℕ) → number (outcome g (mount k) s).answer ≡ 0 → has_none (survey g (outcome g (mount k) s).image) ≡ true
  unfolding has_none is_none
  mount_closes k e = ap is_none (kept_settles g s i.kept k e).1

  abbrev m : Plain
  m = plain b

  committing : (k : ℕ) → cond (ltb 0 (given (outcome g (commit k) s).answer).steps) (committed m m.changes) m
      ≡ cond (eqb (number (outcome g (commit k) s).answer) 0) (committed m m.changes) (cond (eqb (number (outcome g (commit k) s).answer) 1) (cond (ltb 0 k) (committed m m.changes) m) m)
  unfolding allowance
  committing k =
      three (number (outcome g (commit k) s).answer) (committed m m.changes) (cond (ltb 0 k) (committed m m.changes) m) m (cond (ltb 0 (given (outcome g (commit k) s).answer).steps) (committed m m.changes) m)
      (λ e. ap (λ (x : Bool). cond x (committed m m.changes) m) (ltb_of 0 (given (outcome g (commit k) s).answer).steps (commit_steps g s k b i e)))
      (λ e. ap (λ (x : ℕ). cond (ltb 0 x) (committed m m.changes) m) (all_made e))
      (λ l. ap (λ (x : ℕ). cond (ltb 0 x) (committed m m.changes) m) (call_refused g (commit k) s l).steps)
    where
      all_made : number (outcome g (commit k) s).answer ≡ 1 → (given (outcome g (commit k) s).answer).steps ≡ k
      all_made e = omega (arith, call_steps g (commit k) s, (call_stopped g (commit k) s).0 e)

  by_number : (c : Call) → is_format c ≡ false → follow g c (outcome g c s) m
      ≡ cond (eqb (number (outcome g c s).answer) 0) (plainly m (seen g c s) c) (cond (eqb (number (outcome g c s).answer) 1) (cut_short m (seen g c s) c) m)
  unfolding follow ended_in is_done is_format plainly cut_short seen ends_in
  by_number (format k) n = true_false true refl n
  by_number (mount k) n = ends (mount k) (λ e. mount_closes k e)
  by_number (begin rule k) n = only_done (number (outcome g (begin rule k) s).answer) (begun m) m
  by_number (commit k) n = committing k
  by_number (abort k) n = ends (abort k) (abort_closes g s k i.kept)
  by_number (write rule f c k) n = only_done (number (outcome g (write rule f c k) s).answer) (changed_to m f (some c) m.changes) m
  by_number (delete rule f k) n = only_done (number (outcome g (delete rule f k) s).answer) (changed_to m f none m.changes) m
  by_number (read f) n = never (number (outcome g (read f) s).answer) m
  by_number (read_open f) n = never (number (outcome g (read_open f) s).answer) m
  by_number (read_at L p) n = never (number (outcome g (read_at L p) s).answer) m

pub after_call_lem : (g : Geometry) (s : Bytes) (m : Plain) → Holds g s m → (c : Call) → is_format c ≡ false → follow g c (outcome g c s) m ≡ plain_after m (seen g c s) c
unfolding plain_after
after_call_lem g s m h c n =
    subst (λ (x : Plain). follow g c (outcome g c s) x ≡ cond (eqb (number (outcome g c s).answer) 0) (plainly x (seen g c s) c) (cond (eqb (number (outcome g c s).answer) 1) (cut_short x (seen g c s) c) x)) h.is (by_number g s h.store h.inv c n)
    ∙ ap (λ (i : ℕ). cond (eqb i 0) (plainly m (seen g c s) c) (cond (eqb i 1) (cut_short m (seen g c s) c) m)) (as_plain_lem g s m h c).0
