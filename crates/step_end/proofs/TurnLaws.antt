-- What becomes of a transaction's descriptors by their places is what the jobs make of them.
use Rattle.std.proofs.Math.Path.{◌≡◌, refl, ap, ap₂}
use Rattle.std.proofs.Common.{sym, ◌∙◌}
use Rattle.std.specs.Prelude.{Bool, ℕ, ◌%◌}
use Rattle.std.proofs.Math.Bool.{true, false, cond}
use mathlib.Core.List.{List, [], ◌∷◌, ◌++◌}
use native.Mathlib.Omega.{arith}
use Rattle.std.proofs.Math.Dec.{eqb}
use borrow.Author.Tests.{ne_eqb}
use Rattle.rules.specs.Lists.{filter}
use Rattle.rules.specs.Flash.{Bytes, Step}
use Rattle.rules.specs.Unit.{current, old, void, is_data, file_of, is_torn, is_allocated, is_open, is_committed, is_pending_file, is_current_file}
use Rattle.rules.specs.Settled.{Entry, Survey, of_file, select}
use Rattle.rules.specs.Jobs.{turn, turns, clean_up, commit_job, abort_job, mend, end_transaction, tidy}
use Rattle.laws.specs.Lists.{Every}
use Rattle.unit.specs.Spots.{places}
use Rattle.step_new.specs.Places.{become_at, one_at, become_is}
use Rattle.step_end.specs.Turns.{new_flags, turn_at, turns_at, clean_up_at, commit_at, abort_at, mend_at, end_at, tidy_at, Tagged, IndexesCurrent}

module _ (s : Bytes) (table : List ℕ) (cs : List Entry) (indexes : IndexesCurrent table cs) where
  turn_is : (e : Entry) → Tagged s e → turn cs e ≡ turn_at s table e.place
  unfolding turn turn_at new_flags file_of is_data become_at one_at
  turn_is e h =
      rw (become_is old (filter (of_file (e.descriptor.tag % 256)) cs), indexes (e.descriptor.tag % 256) (omega arith), h.tag, ne_eqb e.place 0 h.some)

  turns_is : (es : List Entry) → Every (Tagged s) es → turns cs es ≡ turns_at s table (places es)
  unfolding turns turns_at places
  turns_is [] h = refl
  turns_is (e ∷ es) h = ap₂ (λ (x y : List Step). x ++ y) (turn_is e h.0) (turns_is es h.1)

-- ---- each job
module _ (s : Bytes) (table : List ℕ) (v : Survey) (ps : List ℕ) (pending : ps ≡ places (select is_pending_file v)) where
  pub abort_is : (t : ℕ) → places (select is_open v) ≡ one_at t → abort_job v ≡ abort_at ps t
  unfolding abort_job abort_at
  abort_is t e =
      ap₂ (λ (x y : List Step). x ++ y) (become_is old (select is_open v) ∙ ap (become_at old) e) (become_is old (select is_pending_file v) ∙ ap (become_at old) (sym pending))

  module _ (indexes : IndexesCurrent table (select is_current_file v)) (tagged : Every (Tagged s) (select is_pending_file v)) where
    pub clean_up_is : (ts : List Entry) (t : ℕ) → places ts ≡ one_at t → clean_up ts v ≡ clean_up_at s table ps t
    unfolding clean_up clean_up_at
    clean_up_is ts t e =
        ap₂ (λ (x y : List Step). x ++ y) (turns_is s table (select is_current_file v) indexes (select is_pending_file v) tagged ∙ ap (turns_at s table) (sym pending))
        (become_is old ts ∙ ap (become_at old) e)

    pub commit_is : (t : ℕ) → places (select is_open v) ≡ one_at t → commit_job v ≡ commit_at s table ps t
    unfolding commit_job commit_at
    commit_is t e = ap₂ (λ (x y : List Step). x ++ y) (become_is current (select is_open v) ∙ ap (become_at current) e) (clean_up_is (select is_open v) t e)

    end_is : (ts : List Entry) (opened committed : ℕ) → places (select is_open v) ≡ one_at opened → places ts ≡ one_at committed → end_transaction ts v ≡ end_at s table ps opened committed
    unfolding end_transaction end_at places one_at
    end_is [] opened committed e f = go (eqb committed 0) refl f
      where
        go : (b : Bool) → eqb committed 0 ≡ b → [] ≡ cond b [] (committed ∷ []) → abort_job v ≡ cond b (abort_at ps opened) (clean_up_at s table ps committed)
        go true q p = abort_is opened e
        go false q p = absurd (let z : ◌≡◌ {A = ℕ} 0 1 = cc in let y : ⊥ = omega arith in y)
    end_is (t ∷ ts) opened committed e f = go (eqb committed 0) refl f
      where
        go : (b : Bool) → eqb committed 0 ≡ b → places (t ∷ ts) ≡ cond b [] (committed ∷ []) → clean_up (t ∷ ts) v ≡ cond b (abort_at ps opened) (clean_up_at s table ps committed)
        go true q p = absurd (let z : ◌≡◌ {A = ℕ} 0 1 = cc in let y : ⊥ = omega arith in y)
        go false q p = clean_up_is (t ∷ ts) committed f

    pub tidy_is : (torn allocated opened committed : ℕ) → places (select is_torn v) ≡ one_at torn → places (select is_allocated v) ≡ one_at allocated
        → places (select is_open v) ≡ one_at opened → places (select is_committed v) ≡ one_at committed → tidy v ≡ tidy_at s table ps torn allocated opened committed
    unfolding tidy tidy_at mend mend_at
    tidy_is torn allocated opened committed a b c d =
        ap₂ (λ (x y : List Step). x ++ y)
        (ap₂ (λ (x y : List Step). x ++ y) (become_is void (select is_torn v) ∙ ap (become_at void) a) (become_is old (select is_allocated v) ∙ ap (become_at old) b))
        (end_is (select is_committed v) opened committed c d)
