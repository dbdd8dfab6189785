-- Every call but format, and what it makes of the plain store.
use Rattle.std.proofs.Math.Bool.{Bool, false, true}
use Rattle.std.specs.Prelude.{cond, not, ◌≡◌, ◌%◌, ◌+◌, ◌/◌, ◌<◌, ℕ, eqb, ltb, length, None, Some}
use mathlib.Core.List.{List, [], ◌∷◌}
use Rattle.std.proofs.Math.Option.{none, some}
use Rattle.std.proofs.Common.{◌∙◌, ap, subst}
use Rattle.std.proofs.Math.Path.{refl, sym}
use Rattle.std.proofs.Math.Decide.{ℕ_discrete}
use native.Mathlib.Omega.{arith}
use Rattle.rules.specs.Answers.{Outcome, Plan, carry_out, ended, given, makes, number}
use Rattle.rules.specs.Calls.{Call, abort, allowance, begin, commit, delete, format, has_none, in_geometry, in_settled, is_absent, is_at, is_bad_file, is_too_long, mount, origin_of, outcome}
use Rattle.rules.specs.Calls.{plan, read, read_at, read_open, refuse, showing, showing_at, storing, when_settled, write}
use Rattle.rules.specs.Flash.{Bytes, State, Step, is_geometry, run, state, words}
use Rattle.rules.specs.Histories.{is_content, is_format, takes_bytes}
use Rattle.rules.specs.Jobs.{Stored, can, earlier_of, no_earlier, store_job}
use Rattle.rules.specs.Lists.{all, filter, first, is_none}
use Rattle.rules.specs.Settled.{Entry, Survey, pick, select, survey}
use Rattle.rules.specs.Sound.{standing}
use Rattle.rules.specs.Unit.{data_tag, is_current_file, is_open, mark_tag, transaction_tag}
use Rattle.rules.specs.Views.{committed_view, transaction_view}
use Rattle.rules.specs.declared.NotDone.TheVariants.{Absent, BadFile, BadGeometry, NoTransaction, Open, TooLong}
use Rattle.rules.specs.declared.Geometry.{Geometry}
use Rattle.rules.specs.declared.Rule.{Rule}
use Rattle.rules.specs.declared.Origin.TheVariants.{NotSaid}
use Rattle.rules.specs.declared.Handle.{Handle}
use Rattle.rules.specs.declared.Standing.{Standing}
use Rattle.rules.specs.declared.Standing.TheVariants.{Neither, Settled, Sound}
use Rattle.laws.specs.Plans.{store_cases}
use Rattle.theory.specs.Base.Facts.{differ, true_false}
use Rattle.theory.specs.Images.Layout.{are_bytes}
use Rattle.theory.specs.Images.Model.{all_entries}
use Rattle.theory.specs.Tidying.Sorted.{OrderlyE, Quiet, sorted}
use Rattle.theory.specs.Tidying.Held.{Safe, calm, carried, refuse_makes, settled_makes, survey_is}
use Rattle.theory.specs.Storing.Ready.{Writing}
use Rattle.theory.specs.Storing.Stores.{writing_data, writing_mark, writing_transaction}
use Rattle.theory.specs.Mounting.Kept.{KeptImage, calmly, while_moving}
use Rattle.theory.specs.Mounting.KeptMounts.{moving_unsettled}
use Rattle.theory.specs.Base.Inputs.{file_tag, short_content, showing_makes, showing_at_makes, small_file}
use Rattle.theory.specs.Meaning.Means.{Means, Keeping, with_open}
use Rattle.theory.specs.Meaning.MeansMount.{Inv, held_lists, mount_means}
use Rattle.theory.specs.Meaning.MeansEnds.{abort_means, commits}
use Rattle.theory.specs.Meaning.MeansCommit.{commit_means}
use Rattle.theory.specs.Meaning.StoreMeans.{LastMade, last_made}
use Rattle.theory.specs.Meaning.StoreFinal.{StoreEnds, begins, changes_to}
use Rattle.theory.specs.Meaning.StorePlaced.{Aim, Asks, placed_last, to_change, to_open}

-- What a call makes of the plain store with handles, by its outcome: a change where it is DONE; a commit once its first step, the commit step,
-- is made; a mount or an abort may end the open transaction, as the image then shows.
abbrev pub when_done : Outcome → Keeping → Keeping → Keeping
when_done o b' b = cond (eqb (number o.answer) 0) b' b

abbrev pub keep : Geometry → Call → Outcome → Keeping → Keeping
keep g (format k) o b = b
keep g (mount k) o b = with_open b (select is_open (survey g o.image))
keep g (abort k) o b = with_open b (select is_open (survey g o.image))
keep g (begin rule k) o b = when_done o (begins b) b
keep g (commit k) o b = cond (ltb 0 (given o.answer).steps) (commits b) b
keep g (write rule f c k) o b = when_done o (changes_to f (some (record { at = (given o.answer).at; content = c })) b) b
keep g (delete rule f k) o b = when_done o (changes_to f none b) b
keep g (read f) o b = b
keep g (read_open f) o b = b
keep g (read_at L p) o b = b

module _ (g : Geometry) (b : Keeping) where
  by_last_lem : (b' : Handle → Keeping) (a : Handle) (o : Outcome) → (number o.answer ≡ 0 → (given o.answer).at ≡ a) → LastMade (Inv g b) (StoreEnds g (b' a)) o → Inv g (when_done o (b' (given o.answer).at) b) o.image
  by_last_lem b' a o at l = go (ℕ_discrete (number o.answer) 0)
    where
      go : Dec (number o.answer ≡ 0) → Inv g (when_done o (b' (given o.answer).at) b) o.image
      go (yes e) = subst (λ (n : ℕ). Inv g (cond (eqb n 0) (b' (given o.answer).at) b) o.image) (sym e) (subst (λ (x : Handle). Inv g (b' x) o.image) (sym (at e)) (l.done e).inv)
      go (no n) = subst (λ (c : Bool). Inv g (cond c (b' (given o.answer).at) b) o.image) (sym (differ n)) (l.stopped n)

  -- a DONE job gives the handle that it was planned with
  ended_at : (a : Handle) (k : ℕ) (r : State) → number (ended a k r).answer ≡ 0 → (given (ended a k r).answer).at ≡ a
  unfolding ended given number
  ended_at a k (state t (Some j)) e = refl
  ended_at a k (state t None) e = absurd (let z : ⊥ = omega arith in z)

  -- a call that asks for a settled image; f is what it plans then
  settled_means : (b' : Handle → Keeping) (f : Survey → Plan) (k : ℕ) (s : Bytes) → Inv g b s
      → ((h : Safe g s) → Quiet (sorted (all_entries g 0 h.ps)) → Means b (sorted (all_entries g 0 h.ps)) → Inv g (when_done (carry_out (f (survey g s)) k s) (b' (given (carry_out (f (survey g s)) k s).answer).at) b) (carry_out (f (survey g s)) k s).image)
      → Inv g (when_done (carry_out (in_settled g s f) k s) (b' (given (carry_out (in_settled g s f) k s).answer).at) b) (carry_out (in_settled g s f) k s).image
  unfolding number carry_out refuse when_settled in_settled in_geometry
  settled_means b' f k s i each = go (is_geometry g (length s)) (standing g (survey g s)) refl i.kept
    where
      Out : Bool → Standing → Outcome
      Out x t = carry_out (refuse (not x) BadGeometry (when_settled t (f (survey g s)))) k s

      go : (x : Bool) (t : Standing) → standing g (survey g s) ≡ t → KeptImage g s → Inv g (when_done (Out x t) (b' (given (Out x t).answer).at) b) (Out x t).image
      go false t p w = i
      go true Neither p w = i
      go true Sound p w = i
      go true Settled p (while_moving m z) = absurd (moving_unsettled g m s z p)
      go true Settled p (calmly h) = each h (calm g OrderlyE s h p) (subst (Means b) (held_lists g OrderlyE s h) i.means)

  -- a store past its other refusals
  store_means : (rule : Rule) (tag : ℕ) (c : Bytes) → Writing tag (length c) (words c) → are_bytes c ≡ true → (earlier : Survey → List Entry) (b' : Handle → Keeping) (k : ℕ) (s : Bytes) → Inv g b s
      → (h : Safe g s) → Quiet (sorted (all_entries g 0 h.ps)) → Means b (sorted (all_entries g 0 h.ps)) → ((x : Handle) → (a : Aim b tag c x earlier (b' x)) × Asks a (pick is_open (all_entries g 0 h.ps)))
      → Inv g (when_done (carry_out (storing (store_job g rule tag c earlier s (survey g s))) k s) (b' (given (carry_out (storing (store_job g rule tag c earlier s (survey g s))) k s).answer).at) b) (carry_out (storing (store_job g rule tag c earlier s (survey g s))) k s).image
  unfolding carry_out number
  store_means rule tag c w by earlier b' k s i h quiet means ask = store_cases To g rule tag c earlier s (survey g s) i made
    where
      To : Plan → Type 0
      To p = Inv g (when_done (carry_out p k s) (b' (given (carry_out p k s).answer).at) b) (carry_out p k s).image

      made : (r : Stored) → store_job g rule tag c earlier s (survey g s) ≡ can r → To (makes r.at r.job)
      made r e =
          by_last_lem b' r.at (ended r.at k (run r.job (state s (Some k)))) (ended_at r.at k (run r.job (state s (Some k))))
          (last_made (Inv g b) (StoreEnds g (b' r.at)) r.at s r.job (placed_last g b tag c w by rule earlier (b' r.at) s h quiet means r e (ask r.at).0 (ask r.at).1) k)

  pub open_is_lem : (s : Bytes) (h : Safe g s) (x : Bool) → has_none (survey g s) ≡ x → is_none (pick is_open (all_entries g 0 h.ps)) ≡ x
  unfolding has_none select
  open_is_lem s h x e = sym (ap has_none (survey_is g OrderlyE s h)) ∙ e

  pub none_is : (l : List Entry) → is_none l ≡ true → l ≡ []
  unfolding is_none
  none_is [] e = refl
  none_is (x ∷ l) e = true_false false e refl

  -- THE step of the induction
  pub follows : (c : Call) (s : Bytes) → is_format c ≡ false → takes_bytes c ≡ true → Inv g b s → Inv g (keep g c (outcome g c s) b) (outcome g c s).image
  unfolding is_format select number carry_out refuse words all outcome plan allowance takes_bytes is_content data_tag transaction_tag mark_tag
  follows (format k) s n by i = true_false true refl n
  follows (mount k) s n by i = mount_means g b s k i
  follows (abort k) s n by i = abort_means g b s k i
  follows (commit k) s n by i = commit_means g b s k i
  follows (begin rule k) s n by i =
      settled_means (λ x. begins b) (λ v. refuse (not (has_none v)) Open (storing (store_job g rule transaction_tag [] no_earlier s v))) k s i (λ h quiet means. go h quiet means (has_none (survey g s)) refl)
    where
      go : (h : Safe g s) → Quiet (sorted (all_entries g 0 h.ps)) → Means b (sorted (all_entries g 0 h.ps)) → (x : Bool) → has_none (survey g s) ≡ x
          → Inv g (when_done (carry_out (refuse (not x) Open (storing (store_job g rule transaction_tag [] no_earlier s (survey g s)))) k s) (begins b) b) (carry_out (refuse (not x) Open (storing (store_job g rule transaction_tag [] no_earlier s (survey g s)))) k s).image
      go h quiet means false e = i
      go h quiet means true e = store_means rule transaction_tag [] writing_transaction refl no_earlier (λ x. begins b) k s i h quiet means (λ x. (to_open refl, none_is (pick is_open (all_entries g 0 h.ps)) (open_is_lem s h true e)))
  follows (write rule f c k) s n by i =
      settled_means (λ x. changes_to f (some (record { at = x; content = c })) b) (λ v. refuse (is_bad_file f) BadFile (refuse (is_too_long c) TooLong (refuse (has_none v) NoTransaction (storing (store_job g rule (data_tag f) c (earlier_of f) s v))))) k s i
      (λ h quiet means. go h quiet means (is_bad_file f) (is_too_long c) (has_none (survey g s)) refl refl refl)
    where
      Out : Bool → Bool → Bool → Outcome
      Out x y z = carry_out (refuse x BadFile (refuse y TooLong (refuse z NoTransaction (storing (store_job g rule (data_tag f) c (earlier_of f) s (survey g s)))))) k s

      go : (h : Safe g s) → Quiet (sorted (all_entries g 0 h.ps)) → Means b (sorted (all_entries g 0 h.ps)) → (x y z : Bool) → is_bad_file f ≡ x → is_too_long c ≡ y → has_none (survey g s) ≡ z
          → Inv g (when_done (Out x y z) (changes_to f (some (record { at = (given (Out x y z).answer).at; content = c })) b) b) (Out x y z).image
      go h quiet means true y z p q r = i
      go h quiet means false true z p q r = i
      go h quiet means false false true p q r = i
      go h quiet means false false false p q r =
          subst (λ (d : Bool). Inv g (when_done (Out false false false) (changes_to f (cond d (some (record { at = (given (Out false false false).answer).at; content = c })) none) b) b) (Out false false false).image) (ap (λ (m : ℕ). eqb m 16) tenth)
          (store_means rule (data_tag f) c (writing_data f c small (short_content g c q) by) by (earlier_of f) (λ x. changes_to f (cond (eqb (data_tag f / 256) 16) (some (record { at = x; content = c })) none) b) k s i h quiet means
          (λ x. (to_change f (file_tag g 0x1000 f (omega (arith, small))) low, open_is_lem s h false r)))
        where
          small : f < 256
          small = small_file g f p

          tenth : (4096 + f) / 256 ≡ 16
          tenth = omega (arith, small)

          low : (4096 + f) % 256 ≡ f
          low = omega (arith, small)
  follows (delete rule f k) s n by i =
      settled_means (λ x. changes_to f none b) (λ v. refuse (is_bad_file f) BadFile (refuse (has_none v) NoTransaction (refuse (is_absent (transaction_view f v)) (Absent (origin_of f v)) (storing (store_job g rule (mark_tag f) [] (earlier_of f) s v))))) k s i
      (λ h quiet means. go h quiet means (is_bad_file f) (has_none (survey g s)) (is_absent (transaction_view f (survey g s))) refl refl)
    where
      Out : Bool → Bool → Bool → Outcome
      Out x y z = carry_out (refuse x BadFile (refuse y NoTransaction (refuse z (Absent (origin_of f (survey g s))) (storing (store_job g rule (mark_tag f) [] (earlier_of f) s (survey g s)))))) k s

      go : (h : Safe g s) → Quiet (sorted (all_entries g 0 h.ps)) → Means b (sorted (all_entries g 0 h.ps)) → (x y z : Bool) → is_bad_file f ≡ x → has_none (survey g s) ≡ y → Inv g (when_done (Out x y z) (changes_to f none b) b) (Out x y z).image
      go h quiet means true y z p q = i
      go h quiet means false true z p q = i
      go h quiet means false false true p q = i
      go h quiet means false false false p q =
          subst (λ (d : Bool). Inv g (when_done (Out false false false) (changes_to f (cond d (some (record { at = (given (Out false false false).answer).at; content = [] })) none) b) b) (Out false false false).image) (ap (λ (m : ℕ). eqb m 16) twentieth)
          (store_means rule (mark_tag f) [] (writing_mark f small) refl (earlier_of f) (λ x. changes_to f (cond (eqb (mark_tag f / 256) 16) (some (record { at = x; content = [] })) none) b) k s i h quiet means
          (λ x. (to_change f (file_tag g 0x2000 f (omega (arith, small))) low, open_is_lem s h false q)))
        where
          small : f < 256
          small = small_file g f p

          twentieth : (8192 + f) / 256 ≡ 32
          twentieth = omega (arith, small)

          low : (8192 + f) % 256 ≡ f
          low = omega (arith, small)
  follows (read f) s n by i =
      subst (Inv g b) (sym (carried (λ u. u ≡ s) (plan g s (read f)) 0 s refl (λ a job q. absurd (go a job q)))) i
    where
      go : (a : Handle) (job : List Step) → plan g s (read f) ≡ makes a job → ⊥
      go a job q =
          showing_makes NotSaid (committed_view f (survey g s)) a job
          (refuse_makes (is_bad_file f) BadFile (showing NotSaid (committed_view f (survey g s))) a job (settled_makes g s (λ v. refuse (is_bad_file f) BadFile (showing NotSaid (committed_view f v))) a job q).2).1
  follows (read_open f) s n by i =
      subst (Inv g b) (sym (carried (λ u. u ≡ s) (plan g s (read_open f)) 0 s refl (λ a job q. absurd (go a job q)))) i
    where
      go : (a : Handle) (job : List Step) → plan g s (read_open f) ≡ makes a job → ⊥
      go a job q =
          let v = survey g s in
          let r = refuse_makes (is_bad_file f) BadFile (refuse (has_none v) NoTransaction (showing (origin_of f v) (transaction_view f v))) a job (settled_makes g s (λ v. refuse (is_bad_file f) BadFile (refuse (has_none v) NoTransaction (showing (origin_of f v) (transaction_view f v)))) a job q).2 in
          showing_makes (origin_of f v) (transaction_view f v) a job (refuse_makes (has_none v) NoTransaction (showing (origin_of f v) (transaction_view f v)) a job r.1).1
  follows (read_at L p) s n by i =
      subst (Inv g b) (sym (carried (λ u. u ≡ s) (plan g s (read_at L p)) 0 s refl (λ a job q. absurd (go a job q)))) i
    where
      go : (a : Handle) (job : List Step) → plan g s (read_at L p) ≡ makes a job → ⊥
      go a job q = showing_at_makes (first (filter (is_at L p) (select is_current_file (survey g s)))) a job (settled_makes g s (λ v. showing_at (first (filter (is_at L p) (select is_current_file v)))) a job q).2
