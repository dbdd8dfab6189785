-- What a DONE call leaves is settled.
use Rattle.std.specs.Prelude.{Bool, cond, ◌≡◌, ◌%◌, ◌+◌, ◌/◌, ◌<◌, ◌≤◌, ℕ, eqb, Some, Err}
use Rattle.std.proofs.Math.Bool.{false, not, true}
use mathlib.Core.List.{List, [], ◌∷◌}
use Rattle.std.proofs.Math.Option.{Option, none, some}
use Rattle.std.proofs.Common.{◌∙◌, subst, arith}
use Rattle.std.proofs.Math.Path.{ap, refl, sym}
use Rattle.std.proofs.Math.Decide.{dec_lt}
use Rattle.std.proofs.Math.ListN.{length}
use Rattle.rules.specs.Answers.{Outcome, Plan, carry_out, ended, makes, number, origin}
use Rattle.rules.specs.Calls.{Call, abort, allowance, begin, commit, delete, format, has_none, in_geometry, in_settled, is_absent, is_at, is_bad_file, is_too_long, mount, origin_of, outcome, plan}
use Rattle.rules.specs.Calls.{read, read_at, read_open, refuse, showing, showing_at, storing, when_settled, write}
use Rattle.rules.specs.Flash.{Bytes, State, Step, finish, is_geometry, run, state, steps_of, words}
use Rattle.rules.specs.Histories.{is_content, takes_bytes}
use Rattle.rules.specs.Jobs.{Stored, can, abort_job, commit_job, earlier_of, no_earlier, store_job}
use Rattle.rules.specs.Lists.{all, filter, first, is_none}
use Rattle.rules.specs.Settled.{Entry, Survey, pairs, pick, select, survey}
use Rattle.rules.specs.Sound.{standing}
use Rattle.rules.specs.Unit.{data_tag, is_current_file, is_open, mark_tag, transaction_tag}
use Rattle.rules.specs.Views.{committed_view, transaction_view}
use Rattle.rules.specs.declared.NotDone.{NotDone}
use Rattle.rules.specs.declared.NotDone.TheVariants.{Absent, BadFile, BadGeometry, NoTransaction, Open, TooLong}
use Rattle.rules.specs.declared.Geometry.{Geometry}
use Rattle.rules.specs.declared.Rule.{Rule}
use Rattle.rules.specs.declared.Origin.{Origin}
use Rattle.rules.specs.declared.Origin.TheVariants.{NotSaid}
use Rattle.rules.specs.declared.Handle.{Handle}
use Rattle.rules.specs.declared.Standing.{Standing}
use Rattle.rules.specs.declared.Standing.TheVariants.{Neither, Settled, Sound}
use Rattle.laws.specs.Plans.{store_cases}
use Rattle.laws.specs.Runs.{run_done}
use Rattle.theory.specs.Base.Facts.{true_false}
use Rattle.theory.specs.Base.Along.{run_stopped}
use Rattle.theory.specs.Images.Layout.{are_bytes}
use Rattle.theory.specs.Images.Model.{all_entries}
use Rattle.theory.specs.Tidying.Flat.{Finishes, finishes}
use Rattle.theory.specs.Tidying.Sorted.{Orderly, OrderlyE, Quiet, SameE, sorted, tidying}
use Rattle.theory.specs.Tidying.Tidy.{next, tidied}
use Rattle.theory.specs.Tidying.Held.{HeldEntries, Safe, along_held, calm, held_same, held_settled, survey_is}
use Rattle.theory.specs.Mounting.Formatted.{format_held}
use Rattle.theory.specs.Tidying.Ends.{abort_job_lem, after_step, commit_job_lem, commit_orderly}
use Rattle.theory.specs.Storing.Ready.{Writing}
use Rattle.theory.specs.Storing.Stores.{writing_data, writing_mark, writing_transaction}
use Rattle.theory.specs.Mounting.Kept.{KeptImage, calmly, while_moving}
use Rattle.theory.specs.Mounting.KeptMounts.{moving_unsettled}
use Rattle.theory.specs.Base.Inputs.{file_tag, short_content, small_file}
use Rattle.theory.specs.Meaning.Means.{Keeping, Means}
use Rattle.theory.specs.Meaning.MeansMount.{Inv, held_lists}
use Rattle.theory.specs.Meaning.MeansEnds.{commit_there}
use Rattle.theory.specs.Meaning.StoreMeans.{last_made}
use Rattle.theory.specs.Meaning.StoreFinal.{StoreEnds, begins, changes_to}
use Rattle.theory.specs.Meaning.StorePlaced.{Aim, Asks, placed_last, to_change, to_open}
use Rattle.theory.specs.Promised.Follow.{none_is, open_is_lem}
use Rattle.theory.specs.Promised.Demanded.{kept_settles}

-- a DONE job is made to its end
pub done_image : (h : Handle) (xs : List Step) (k : ℕ) (s : Bytes) → number (ended h k (run xs (state s (Some k)))).answer ≡ 0 → (ended h k (run xs (state s (Some k)))).image ≡ finish xs s
unfolding ended number
done_image h xs k s z = go (dec_lt k (length (steps_of xs s)))
  where
    go : Dec (k < length (steps_of xs s)) → (ended h k (run xs (state s (Some k)))).image ≡ finish xs s
    go (yes l) = absurd (let w : ⊥ = omega (arith, sym z ∙ ap (λ (r : State). number (ended h k r).answer) (run_stopped xs k s l)) in w)
    go (no l) = ap (λ (r : State). (ended h k r).image) (run_done xs k s (omega arith))

-- mount's tidying, abort and commit's clean-up end settled
tidy_settles : (g : Geometry) (es : List Entry) → Orderly (sorted es) → (u : Bytes) → HeldEntries g (λ l. l ≡ es) u → standing g (survey g (finish (tidying es) u)) ≡ Settled
tidy_settles g es o u h =
    held_settled g (λ l. l ≡ F.last) (finish (tidying es) u) there (subst (λ (l : List Entry). Quiet (sorted l)) (sym there.holds) (tidied (sorted F.last) F.holds F.none).quiet)
  where
    F : Finishes OrderlyE SameE tidying es
    F = finishes OrderlyE SameE tidying next es o

    there : HeldEntries g (λ l. l ≡ F.last) (finish (tidying es) u)
    there = (along_held g OrderlyE F.turns u h).1

-- a finished format of any image
pub format_settles : (g : Geometry) (s : Bytes) (k : ℕ) → number (outcome g (format k) s).answer ≡ 0 → standing g (survey g (outcome g (format k) s).image) ≡ Settled
unfolding pick filter pairs all
format_settles g s k z = held_settled g (λ l. l ≡ []) (outcome g (format k) s).image h (subst (λ (l : List Entry). Quiet (sorted l)) (sym h.holds) empty)
  where
    h : HeldEntries g (λ l. l ≡ []) (outcome g (format k) s).image
    h = format_held g s k z

    empty : Quiet (sorted [])
    empty = record { torn = refl; allocated = refl; committed = refl; opened = omega arith; current = refl; data' = refl; pending = refl; beside = refl }

module _ (g : Geometry) (b : Keeping) (s : Bytes) (i : Inv g b s) where
  abbrev Settles : Outcome → Type 0
  Settles o = number o.answer ≡ 0 → standing g (survey g o.image) ≡ Settled

  -- a call that asks for a settled image; f is what it plans then
  asked : (f : Survey → Plan) (k : ℕ) → (standing g (survey g s) ≡ Settled → (h : Safe g s) → Quiet (sorted (all_entries g 0 h.ps)) → Settles (carry_out (f (survey g s)) k s)) → Settles (carry_out (in_settled g s f) k s)
  unfolding in_geometry carry_out in_settled number refuse when_settled
  asked f k each = go (is_geometry g (length s)) (standing g (survey g s)) refl i.kept
    where
      go : (x : Bool) (t : Standing) → standing g (survey g s) ≡ t → KeptImage g s → Settles (carry_out (refuse (not x) BadGeometry (when_settled t (f (survey g s)))) k s)
      go false t p w = λ e. absurd (let z : ⊥ = omega (arith, e) in z)
      go true Neither p w = λ e. absurd (let z : ⊥ = omega (arith, e) in z)
      go true Sound p w = λ e. absurd (let z : ⊥ = omega (arith, e) in z)
      go true Settled p (while_moving m z) = absurd (moving_unsettled g m s z p)
      go true Settled p (calmly h) = each p h (calm g OrderlyE s h p)

  unless : (x : Bool) (a : NotDone) (p : Plan) (k : ℕ) → 2 ≤ number (Err a) → (x ≡ false → Settles (carry_out p k s)) → Settles (carry_out (refuse x a p) k s)
  unfolding refuse carry_out number
  unless true a p k l f = λ e. absurd (let z : ⊥ = omega (arith, l, e) in z)
  unless false a p k l f = f refl

  stored : (rule : Rule) (tag : ℕ) (c : Bytes) → Writing tag (length c) (words c) → are_bytes c ≡ true → (earlier : Survey → List Entry) (b' : Handle → Keeping) (k : ℕ) (h : Safe g s) → Quiet (sorted (all_entries g 0 h.ps))
      → ((x : Handle) → (a : Aim b tag c x earlier (b' x)) × Asks a (pick is_open (all_entries g 0 h.ps))) → Settles (carry_out (storing (store_job g rule tag c earlier s (survey g s))) k s)
  unfolding carry_out number
  stored rule tag c w by earlier b' k h quiet ask =
      store_cases (λ (p : Plan). Settles (carry_out p k s)) g rule tag c earlier s (survey g s) (λ z. absurd (let y : ⊥ = omega (arith, z) in y)) made
    where
      made : (r : Stored) → store_job g rule tag c earlier s (survey g s) ≡ can r → Settles (carry_out (makes r.at r.job) k s)
      made r e = λ z.
          ((last_made (Inv g b) (StoreEnds g (b' r.at)) r.at s r.job
          (placed_last g b tag c w by rule earlier (b' r.at) s h quiet (subst (Means b) (held_lists g OrderlyE s h) i.means) r e (ask r.at).0 (ask r.at).1) k).done z).settled

  shown_settles : (w : Origin) (o : Option Entry) → standing g (survey g s) ≡ Settled → Settles (carry_out (showing w o) 0 s)
  unfolding carry_out number showing
  shown_settles w none p = λ e. absurd (let z : ⊥ = omega (arith, e) in z)
  shown_settles w (some x) p = λ e. p

  shown_at_settles : (o : Option Entry) → standing g (survey g s) ≡ Settled → Settles (carry_out (showing_at o) 0 s)
  unfolding carry_out number showing_at
  shown_at_settles none p = λ e. absurd (let z : ⊥ = omega (arith, e) in z)
  shown_at_settles (some x) p = λ e. p

  abort_settles : (k : ℕ) (h : Safe g s) → Quiet (sorted (all_entries g 0 h.ps)) → Settles (carry_out (makes origin (abort_job (survey g s))) k s)
  unfolding carry_out
  abort_settles k h c = λ z.
      ap (λ (u : Bytes). standing g (survey g u)) (done_image origin (abort_job (survey g s)) k s z ∙ ap (λ (j : List Step). finish j s) (abort_job_lem g s h c))
      ∙ tidy_settles g (all_entries g 0 h.ps) h.holds s (held_same g OrderlyE s h)

  commit_settles : (k : ℕ) (h : Safe g s) → Quiet (sorted (all_entries g 0 h.ps)) → has_none (survey g s) ≡ false → Settles (carry_out (makes origin (commit_job (survey g s))) k s)
  unfolding is_none carry_out finish
  commit_settles k h c n = go (pick is_open (all_entries g 0 h.ps)) refl (open_is_lem g b s h false n)
    where
      go : (l : List Entry) → pick is_open (all_entries g 0 h.ps) ≡ l → is_none l ≡ false → Settles (carry_out (makes origin (commit_job (survey g s))) k s)
      go [] q m = true_false true refl m
      go (t ∷ []) q m = λ z.
          ap (λ (u : Bytes). standing g (survey g u)) (done_image origin (commit_job (survey g s)) k s z ∙ ap (λ (j : List Step). finish j s) (ap commit_job (survey_is g OrderlyE s h) ∙ commit_job_lem g s h c t q))
          ∙ tidy_settles g (after_step g s h c t q) (commit_orderly g s h c t q) _ (commit_there g s h c t q)
      go (t ∷ (u ∷ us)) q m = absurd (let w : ⊥ = omega (arith, ap length q, c.opened) in w)

  pub done_settles : (c : Call) → takes_bytes c ≡ true → Settles (outcome g c s)
  unfolding allowance plan is_content all data_tag mark_tag number outcome takes_bytes transaction_tag words
  done_settles (format k) by = format_settles g s k
  done_settles (mount k) by = λ z. (kept_settles g s i.kept k z).0
  done_settles (abort k) by = asked (λ v. refuse (has_none v) NoTransaction (makes origin (abort_job v))) k (λ p h c. unless (has_none (survey g s)) NoTransaction (makes origin (abort_job (survey g s))) k (omega arith) (λ e. abort_settles k h c))
  done_settles (commit k) by = asked (λ v. refuse (has_none v) NoTransaction (makes origin (commit_job v))) k (λ p h c. unless (has_none (survey g s)) NoTransaction (makes origin (commit_job (survey g s))) k (omega arith) (λ e. commit_settles k h c e))
  done_settles (begin rule k) by =
      asked (λ v. refuse (not (has_none v)) Open (storing (store_job g rule transaction_tag [] no_earlier s v))) k
      (λ p h c. unless (not (has_none (survey g s))) Open (storing (store_job g rule transaction_tag [] no_earlier s (survey g s))) k (omega arith)
      (λ e. stored rule transaction_tag [] writing_transaction refl no_earlier (λ x. begins b) k h c (λ x. (to_open refl, none_is g b (pick is_open (all_entries g 0 h.ps)) (open_is_lem g b s h true (is_none_lem (has_none (survey g s)) e))))))
    where
      is_none_lem : (x : Bool) → not x ≡ false → x ≡ true
      is_none_lem true e = refl
      is_none_lem false e = sym e
  done_settles (write rule f c k) by =
      asked (λ v. refuse (is_bad_file f) BadFile (refuse (is_too_long c) TooLong (refuse (has_none v) NoTransaction (storing (store_job g rule (data_tag f) c (earlier_of f) s v))))) k
      (λ p h q. unless (is_bad_file f) BadFile (refuse (is_too_long c) TooLong (refuse (has_none (survey g s)) NoTransaction (storing (store_job g rule (data_tag f) c (earlier_of f) s (survey g s))))) k (omega arith)
      (λ bf. unless (is_too_long c) TooLong (refuse (has_none (survey g s)) NoTransaction (storing (store_job g rule (data_tag f) c (earlier_of f) s (survey g s)))) k (omega arith)
      (λ tl. unless (has_none (survey g s)) NoTransaction (storing (store_job g rule (data_tag f) c (earlier_of f) s (survey g s))) k (omega arith)
      (λ e. stored rule (data_tag f) c (writing_data f c (small_file g f bf) (short_content g c tl) by) by (earlier_of f) (λ x. changes_to f (cond (eqb (data_tag f / 256) 16) (some (record { at = x; content = c })) none) b) k h q
      (λ x. (to_change f (file_tag g 0x1000 f (omega (arith, small_file g f bf))) (low (small_file g f bf)), open_is_lem g b s h false e))))))
    where
      low : f < 256 → (4096 + f) % 256 ≡ f
      low l = omega (arith, l)
  done_settles (delete rule f k) by =
      asked (λ v. refuse (is_bad_file f) BadFile (refuse (has_none v) NoTransaction (refuse (is_absent (transaction_view f v)) (Absent (origin_of f v)) (storing (store_job g rule (mark_tag f) [] (earlier_of f) s v))))) k
      (λ p h q. unless (is_bad_file f) BadFile (refuse (has_none (survey g s)) NoTransaction (refuse (is_absent (transaction_view f (survey g s))) (Absent (origin_of f (survey g s))) (storing (store_job g rule (mark_tag f) [] (earlier_of f) s (survey g s))))) k (omega arith)
      (λ bf. unless (has_none (survey g s)) NoTransaction (refuse (is_absent (transaction_view f (survey g s))) (Absent (origin_of f (survey g s))) (storing (store_job g rule (mark_tag f) [] (earlier_of f) s (survey g s)))) k (omega arith)
      (λ e. unless (is_absent (transaction_view f (survey g s))) (Absent (origin_of f (survey g s))) (storing (store_job g rule (mark_tag f) [] (earlier_of f) s (survey g s))) k (omega arith)
      (λ a. stored rule (mark_tag f) [] (writing_mark f (small_file g f bf)) refl (earlier_of f) (λ x. changes_to f (cond (eqb (mark_tag f / 256) 16) (some (record { at = x; content = [] })) none) b) k h q
      (λ x. (to_change f (file_tag g 0x2000 f (omega (arith, small_file g f bf))) (low (small_file g f bf)), open_is_lem g b s h false e))))))
    where
      low : f < 256 → (8192 + f) % 256 ≡ f
      low l = omega (arith, l)
  done_settles (read f) by =
      asked (λ v. refuse (is_bad_file f) BadFile (showing NotSaid (committed_view f v))) 0
      (λ p h c. unless (is_bad_file f) BadFile (showing NotSaid (committed_view f (survey g s))) 0 (omega arith) (λ e. shown_settles NotSaid (committed_view f (survey g s)) p))
  done_settles (read_open f) by =
      asked (λ v. refuse (is_bad_file f) BadFile (refuse (has_none v) NoTransaction (showing (origin_of f v) (transaction_view f v)))) 0
      (λ p h c. unless (is_bad_file f) BadFile (refuse (has_none (survey g s)) NoTransaction (showing (origin_of f (survey g s)) (transaction_view f (survey g s)))) 0 (omega arith)
      (λ e. unless (has_none (survey g s)) NoTransaction (showing (origin_of f (survey g s)) (transaction_view f (survey g s))) 0 (omega arith) (λ d. shown_settles (origin_of f (survey g s)) (transaction_view f (survey g s)) p)))
  done_settles (read_at L q) by = asked (λ v. showing_at (first (filter (is_at L q) (select is_current_file v)))) 0 (λ p h c. shown_at_settles (first (filter (is_at L q) (select is_current_file (survey g s)))) p)
