-- One turn of the loop over pending descriptors; and that no flag change touches a tag.
use Rattle.std.specs.Prelude.{◌≡◌, refl, ℕ, suc, ◌+◌, ◌/◌, ◌%◌, ◌≤◌, ◌<◌, get_or, drop}
use Rattle.std.proofs.Common.{ap, ◌∙◌, arith, add-one, eq-eqb, ne_eqb, drop_of_length-le}
use mathlib.Core.List.{List, [], ◌∷◌, ◌++◌}
use Rattle.std.proofs.Math.ListN.{length}
use Rattle.std.proofs.Math.Seq.{drop-cons}
use Rattle.rules.specs.Flash.{Bytes, word, Step, State, state, run, Run}
use Rattle.rules.specs.Unit.{current, old, void}
use Rattle.laws.specs.Lists.{Every, every_append}
use Rattle.laws.specs.Runs.{run_append}
use Rattle.step_new.specs.Places.{Spot, SpotIf, AllSpots, become_at, one_at}
use Rattle.step_new.specs.Leaves.{LeavesRead, run_leaves}
use Rattle.step_new.specs.Laws.{one_tags}
use Rattle.step_end.specs.Turns.{Currents, new_flags, turn_at, turns_at, clean_up_at, abort_at, mend_at, end_at}

pub flags_data : (t : ℕ) → t / 256 ≡ 0x10 → new_flags t ≡ current
unfolding new_flags
flags_data t h = rw (eq-eqb (t / 256) 0x10 h)

pub flags_mark : (t : ℕ) → (t / 256 ≡ 0x10 → ⊥) → new_flags t ≡ old
unfolding new_flags
flags_mark t h = rw (ne_eqb (t / 256) 0x10 h)

pub turn_tags : (s : Bytes) (table : List ℕ) (p : ℕ) (bytes : ℕ) → Spot bytes p → Currents bytes table → (a : ℕ) → a % 8 ≡ 0
    → Every (LeavesRead (λ (s : Bytes). word s (a + 6))) (turn_at s table p)
unfolding turn_at
turn_tags s table p bytes h k a e =
    every_append (LeavesRead (λ (s : Bytes). word s (a + 6))) (become_at old (one_at (get_or table (word s (p + 6) % 256) 0))) (become_at (new_flags (word s (p + 6))) (one_at p))
    (one_tags bytes old (get_or table (word s (p + 6) % 256) 0) (k (word s (p + 6) % 256) (omega arith)) a e) (one_tags bytes (new_flags (word s (p + 6))) p (λ q. h) a e)

-- every tag of s is as in t
abbrev pub Tags : Bytes → Bytes → Type 0
Tags s t = (a : ℕ) → a % 8 ≡ 0 → word s (a + 6) ≡ word t (a + 6)

module _ (s₀ s t : Bytes) (r q : Run) (table ps : List ℕ) (i : ℕ) (h : i < length ps)
    (tags : Tags s s₀) (place : Spot (length s) (get_or ps i 0)) (table_ok : Currents (length s) table) (e : state t q ≡ run (turn_at s table (get_or ps i 0)) (state s r)) where
  pub turn_turn : run (turns_at s₀ table (drop (i + 1) ps)) (state t q) ≡ run (turns_at s₀ table (drop i ps)) (state s r)
  unfolding turns_at
  turn_turn =
      rw (add-one, drop-cons ps i 0 h, run_append (turn_at s₀ table (get_or ps i 0)) (turns_at s₀ table (drop (suc i) ps)) (state s r), e)
      (ap (λ (w : List Step). run (turns_at s₀ table (drop (suc i) ps)) (run w (state s r))) same)
    where
      same : turn_at s table (get_or ps i 0) ≡ turn_at s₀ table (get_or ps i 0)
      same = unfold turn_at in rw (tags (get_or ps i 0) place.whole)

  pub turn_kept : Tags t s₀
  turn_kept a k =
      run_leaves (λ (s : Bytes). word s (a + 6)) (turn_at s table (get_or ps i 0)) s t r q (turn_tags s table (get_or ps i 0) (length s) place table_ok a k) e ∙ tags a k

pub turn_end : (s : Bytes) (table ps : List ℕ) (i : ℕ) → length ps ≤ i → (x : State) → run (turns_at s table (drop i ps)) x ≡ x
unfolding run turns_at
turn_end s table ps i h x = rw (drop_of_length-le ps {i = i} h)

-- ---- the tags as they were before
turns_same : (s t : Bytes) (table ps : List ℕ) → Tags s t → ((i : ℕ) → i < length ps → get_or ps i 0 % 8 ≡ 0) → turns_at s table ps ≡ turns_at t table ps
unfolding turns_at turn_at
turns_same s t table [] h k = refl
turns_same s t table (p ∷ ps) h k =
    rw (h p (k 0 (omega arith))) (ap (λ (x : List Step). turn_at t table p ++ x) (turns_same s t table ps h (λ i l. k (suc i) (omega arith))))

module _ (bytes : ℕ) (s t : Bytes) (table ps : List ℕ) (tags : Tags s t) (spots : AllSpots bytes ps) where
  turns_as : turns_at s table ps ≡ turns_at t table ps
  turns_as = turns_same s t table ps tags (λ i l. (spots i l).whole)

  pub clean_up_as : (x : ℕ) → clean_up_at s table ps x ≡ clean_up_at t table ps x
  unfolding clean_up_at
  clean_up_as x = rw turns_as

  pub end_as : (opened committed : ℕ) → end_at s table ps opened committed ≡ end_at t table ps opened committed
  unfolding end_at
  end_as opened committed = rw (clean_up_as committed)

-- flag changes at a place that may be none
pub one_kept : (bytes f p : ℕ) (s t : Bytes) (r q : Run) → SpotIf bytes p → state t q ≡ run (become_at f (one_at p)) (state s r) → Tags t s
one_kept bytes f p s t r q h e a k = run_leaves (λ (s : Bytes). word s (a + 6)) (become_at f (one_at p)) s t r q (one_tags bytes f p h a k) e

pub mend_kept : (bytes torn allocated : ℕ) (s t : Bytes) (r q : Run) → SpotIf bytes torn → SpotIf bytes allocated → state t q ≡ run (mend_at torn allocated) (state s r) → Tags t s
unfolding mend_at
mend_kept bytes torn allocated s t r q h k e a l =
    run_leaves (λ (s : Bytes). word s (a + 6)) (become_at void (one_at torn) ++ become_at old (one_at allocated)) s t r q
    (every_append (LeavesRead (λ (s : Bytes). word s (a + 6))) (become_at void (one_at torn)) (become_at old (one_at allocated)) (one_tags bytes void torn h a l) (one_tags bytes old allocated k a l)) e

-- ---- which end
module _ (s : Bytes) (table ps : List ℕ) (opened committed : ℕ) where
  pub end_none : committed ≡ 0 → abort_at ps opened ≡ end_at s table ps opened committed
  unfolding end_at
  end_none h = rw h

  pub end_some : (committed ≡ 0 → ⊥) → clean_up_at s table ps committed ≡ end_at s table ps opened committed
  unfolding end_at
  end_some h = rw (ne_eqb committed 0 h)
