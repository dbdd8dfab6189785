-- What the store means after a store's last step: a transaction is open, or has one change more.
use Rattle.std.specs.Prelude.{Bool, ◌||◌, cond, false, not, true, ◌≢◌, ◌≡◌, refl, ◌<◌, ◌≤◌, ℕ, eqb, get_or, length}
use mathlib.Core.List.{List, [], ◌++◌, ◌∷◌}
use Rattle.std.proofs.Math.Option.{Option, none, some}
use Rattle.std.proofs.Common.{◌∙◌, ap, ap₂, subst, subst₂, arith}
use Rattle.std.proofs.Math.Path.{sym}
use Rattle.std.proofs.Math.Decide.{ℕ_discrete}
use Rattle.rules.specs.Flash.{Bytes, Step, finish, words}
use Rattle.rules.specs.Jobs.{fits, size_for}
use Rattle.rules.specs.Lists.{filter}
use Rattle.rules.specs.Settled.{Entry, of_file, pairs, pick, survey}
use Rattle.rules.specs.Sound.{standing}
use Rattle.rules.specs.Unit.{Descriptor, is_allocated, is_committed, is_current, is_current_file, is_data, is_open, is_pending, is_pending_file, is_torn, is_transaction}
use Rattle.rules.specs.declared.Geometry.{Geometry}
use Rattle.rules.specs.declared.Standing.TheVariants.{Settled}
use Rattle.theory.specs.Base.Facts.{differ, eq_of, eqb_same}
use Rattle.theory.specs.Base.Facts.{both_nil, filter_in, is_nil}
use Rattle.theory.specs.Images.Model.{all_entries, home_of, no_laid_home}
use Rattle.theory.specs.Tidying.Sorted.{OrderlyE, Quiet, Sorted, data_only, quiet_unfinished, sorted}
use Rattle.theory.specs.Tidying.Sorted.{View, unfinished, view, yield, yield_by}
use Rattle.theory.specs.Tidying.Held.{HeldEntries, Safe, held_map, held_settled}
use Rattle.theory.specs.Storing.Placed.{sum}
use Rattle.theory.specs.Storing.Ready.{Writing}
use Rattle.theory.specs.Storing.Stores.{back, before_lists, front, last_step, most_filling, new, quiet_sum}
use Rattle.theory.specs.Mounting.Kept.{calmly}
use Rattle.theory.specs.Meaning.Means.{Drafts, Match, Means, Keeping, change_by, change_of, changed_k, shown_of}
use Rattle.theory.specs.Meaning.MeansMount.{Inv, held_lists}
use Rattle.theory.specs.Meaning.StoreMeans.{LastOf, along_before, means_sum, most_means, out}

-- a transaction with no changes; one change more
abbrev pub begins : Keeping → Keeping
begins b = record { files = b.files; changes = some (λ f. none) }

abbrev pub changes_to : ℕ → Option View → Keeping → Keeping
changes_to f x b = record { files = b.files; changes = elim b.changes as (λ j. Option Drafts) [ none ↦ none | some o ↦ some (changed_k f x o) ] }

-- what a finished store leaves: the image means b, and is settled
pub record StoreEnds (g : Geometry) (b : Keeping) (u : Bytes) : Type 0 where
  pub inv : Inv g b u
  pub settled : standing g (survey g u) ≡ Settled

pub ends : (g : Geometry) (b : Keeping) (u : Bytes) (es : List Entry) → HeldEntries g (λ x. x ≡ es) u → Quiet (sorted es) → Means b (sorted es) → StoreEnds g b u
ends g b u es z q m =
    record {
      inv = record {
        kept = calmly (held_map g (λ x. x ≡ es) OrderlyE (λ x e. subst OrderlyE (sym e) (unfinished (quiet_unfinished (sorted es) q))) u z);
        means = subst (Means b) (sym (held_lists g (λ x. x ≡ es) u z ∙ ap sorted z.holds)) m;
      };
      settled = held_settled g (λ x. x ≡ es) u z (subst (λ (y : List Entry). Quiet (sorted y)) (sym z.holds) q);
    }

-- no transaction, nothing pending
none_pending : (l : Sorted) → Quiet l → l.opened ≡ [] → l.pending ≡ []
none_pending l q e = is_nil l.pending (eq_of (length l.pending) 0 (sym (ap (λ (x : List Entry). eqb (length x) 1 || eqb (length l.pending) 0) e) ∙ q.beside))

-- the pending entries with one change more
pub change_more : (b : Keeping) (l k : Sorted) → Quiet l → Means b l → (t : Entry) (ts : List Entry) → l.opened ≡ t ∷ ts → k.committed ≡ l.committed → k.opened ≡ l.opened → k.current ≡ l.current
    → (f : ℕ) (e : Entry) → filter (of_file f) k.pending ≡ e ∷ [] → ((n : ℕ) → n ≢ f → filter (of_file n) k.pending ≡ filter (of_file n) l.pending)
    → Means (changes_to f (cond (is_data e.descriptor) (some (view e)) none) b) k
change_more b l k q h t ts lo pc po pu f e mine others =
    record {
      weakly = record { files = files'; matches = subst (λ (x : List Entry). Match x k.pending (changes_to f x' b).changes) (sym (po ∙ lo)) matches' };
      alone = λ z. absurd (let w : ⊥ = omega (arith, ap length (sym z ∙ po ∙ lo)) in w);
    }
  where
    x' : Option View
    x' = cond (is_data e.descriptor) (some (view e)) none

    files' : (n : ℕ) → shown_of (yield k n) ≡ b.files n
    files' n =
        (λ i. shown_of (yield_by ((pc ∙ q.committed) i) k.pending (pu i) n))
        ∙ sym (ap (λ (x : List Entry). shown_of (yield_by x l.pending l.current n)) q.committed)
        ∙ h.weakly.files n

    mt : (o : Drafts) × (b.changes ≡ some o) × (pairs l.pending ≡ 0 → (n : ℕ) → change_of l.pending n ≡ o n)
    mt = subst (λ (x : List Entry). Match x l.pending b.changes) lo h.weakly.matches

    each : (n : ℕ) → Dec (n ≡ f) → change_of k.pending n ≡ changed_k f x' mt.0 n
    each n (yes z) = ap (change_of k.pending) z ∙ ap change_by mine ∙ sym (ap (λ (c : Bool). cond c (some x') (mt.0 n)) (ap (λ (m : ℕ). eqb m f) z ∙ eqb_same f))
    each n (no z) = ap change_by (others n z) ∙ mt.2 q.pending n ∙ sym (ap (λ (c : Bool). cond c (some x') (mt.0 n)) (differ z))

    matches' : Match (t ∷ ts) k.pending (changes_to f x' b).changes
    matches' = (changed_k f x' mt.0, ap (λ (o : Option Drafts). elim o as (λ j. Option Drafts) [ none ↦ none | some o ↦ some (changed_k f x' o) ]) mt.1, λ z n. each n (ℕ_discrete n f))

module _ (g : Geometry) (b : Keeping) (s : Bytes) (h : Safe g s) (quiet : Quiet (sorted (all_entries g 0 h.ps))) (means : Means b (sorted (all_entries g 0 h.ps))) (tag : ℕ) (c : Bytes) (w : Writing tag (length c) (words c)) (i : ℕ) (l : i < length h.ps)
    (fit : fits (size_for c) (home_of g i (get_or h.ps i no_laid_home)).room ≡ true) where
  abbrev F : List Entry
  F = front g s OrderlyE h quiet tag c w i l fit

  abbrev B : List Entry
  B = back g s OrderlyE h quiet tag c w i l fit

  abbrev N : Entry
  N = new g s OrderlyE h quiet tag c w i l fit

  abbrev M : List Step
  M = most_filling g s OrderlyE h quiet tag c w i l fit

  abbrev X : Step
  X = last_step g s OrderlyE h quiet tag c w i l fit

  qs : Quiet (sum F B)
  qs = quiet_sum g s OrderlyE h quiet tag c w i l fit

  ms : Means b (sum F B)
  ms = means_sum g b s h quiet means tag c w i l fit

  out' : (p : Descriptor → Bool) → p N.descriptor ≡ false → pick p (F ++ N ∷ B) ≡ pick p F ++ pick p B
  out' p k = out g b s h quiet means tag c w i l fit p N k

  -- ---- a transaction
  pub open_last : is_transaction N.descriptor ≡ true → pick is_open (all_entries g 0 h.ps) ≡ [] → LastOf (Inv g b) (StoreEnds g (begins b)) s (M ++ X ∷ [])
  unfolding is_open is_pending filter pick is_pending_file is_torn is_allocated is_committed is_current is_current_file pairs
  open_last tr none' =
      record {
        most = M;
        last = X;
        whole = refl;
        along = along_before g b s h quiet means tag c w i l fit;
        final = ends g (begins b) (finish (M ++ X ∷ []) s) (F ++ N ∷ B) (most_means g b s h quiet means tag c w i l fit).1 quiet' final';
      }
    where
      no_open : pick is_open F ++ pick is_open B ≡ []
      no_open = sym (ap (λ (x : Sorted). x.opened) (before_lists g s OrderlyE h quiet tag c w i l fit)) ∙ none'

      split : (pick is_open F ≡ []) × (pick is_open B ≡ [])
      split = both_nil (pick is_open F) (pick is_open B) no_open

      opened' : pick is_open (F ++ N ∷ B) ≡ N ∷ []
      opened' = filter_in (λ (y : Entry). is_open y.descriptor) F N B tr ∙ ap₂ (λ (x y : List Entry). x ++ N ∷ y) split.0 split.1

      pending' : pick is_pending_file (F ++ N ∷ B) ≡ []
      pending' = out' is_pending_file (ap not tr) ∙ none_pending (sum F B) qs no_open

      quiet' : Quiet (sorted (F ++ N ∷ B))
      quiet' = record {
        torn = out' is_torn refl ∙ qs.torn;
        allocated = out' is_allocated refl ∙ qs.allocated;
        committed = out' is_committed refl ∙ qs.committed;
        opened = subst (λ (x : List Entry). length x ≤ 1) (sym opened') (omega arith);
        current = ap pairs (out' is_current_file refl) ∙ qs.current;
        data' = ap data_only (out' is_current_file refl) ∙ qs.data';
        pending = ap pairs pending';
        beside = ap (λ (x : List Entry). eqb (length x) 1 || eqb (length (pick is_pending_file (F ++ N ∷ B))) 0) opened';
      }

      final' : Means (begins b) (sorted (F ++ N ∷ B))
      final' = record {
        weakly = record {
          files = λ f. (λ j. shown_of (yield_by (out' is_committed refl j) (out' is_pending_file (ap not tr) j) (out' is_current_file refl j) f)) ∙ ms.weakly.files f;
          matches = subst₂ (λ (x y : List Entry). Match x y (some (λ f. none))) (sym opened') (sym pending') ((λ f. none), refl, λ e f. refl);
        };
        alone = λ z. absurd (let v : ⊥ = omega (arith, ap length (sym z ∙ opened')) in v);
      }
