-- Handles: no two entries of an image have one handle, and what a handle shows is its file's current data.
use Rattle.std.specs.Prelude.{Bool, ◌&&◌, false, true, ◌≢◌, ◌≡◌, ◌+◌, ◌<◌, ◌≤◌, suc, ℕ, length}
use Rattle.std.proofs.Math.Bool.{cond}
use mathlib.Core.List.{List, [], ◌++◌, ◌∷◌}
use Rattle.std.proofs.Math.Option.{Option, none, some}
use Rattle.std.proofs.Common.{◌∙◌, subst, sym, length-append}
use Rattle.std.proofs.Math.Path.{ap, ap₂, refl}
use Rattle.std.proofs.Math.Decide.{ℕ_discrete}
use native.Mathlib.Omega.{arith}
use Rattle.std.proofs.Math.Dec.{eqb}
use Rattle.rules.specs.Calls.{is_at}
use Rattle.rules.specs.Flash.{Bytes}
use Rattle.rules.specs.Lists.{filter, first}
use Rattle.rules.specs.Settled.{Entry, of_file, pairs, pick}
use Rattle.rules.specs.Unit.{Descriptor, is_current_file}
use Rattle.rules.specs.declared.Geometry.{Geometry}
use Rattle.laws.specs.Homes.{pairs_few}
use Rattle.theory.specs.Base.Facts.{FirstThat, and_false, and_l, and_r, differ, eq_of, eqb_same, filter_append, filter_head, filter_in, is_nil}
use Rattle.theory.specs.Images.Model.{all_entries, home_entries, LaidHome, entry_at}
use Rattle.theory.specs.Tidying.Sorted.{View, num, seen, view, views}
use Rattle.theory.specs.Meaning.Means.{shown_of}

pub none_some : {A B : Type 0} (x : A) → ◌≡◌ {A = Option A} none (some x) → B
none_some x e = absurd (let z : ◌≡◌ {A = ℕ} 0 1 = cc in let w : ⊥ = omega arith in w)

-- ---- one that passes where at most one does is the first that passes
pub alone_first : (p : Entry → Bool) (a : List Entry) (e : Entry) (b : List Entry) → p e ≡ true → length (filter p (a ++ e ∷ b)) ≤ 1 → filter p (a ++ e ∷ b) ≡ e ∷ []
alone_first p a e b k few = split ∙ ap₂ (λ (x y : List Entry). x ++ e ∷ y) (is_nil (filter p a) (omega (arith, sized))) (is_nil (filter p b) (omega (arith, sized)))
  where
    split : filter p (a ++ e ∷ b) ≡ filter p a ++ e ∷ filter p b
    split = filter_in p a e b k

    sized : length (filter p a) + suc (length (filter p b)) ≤ 1
    sized = subst (λ (n : ℕ). n ≤ 1) (ap length split ∙ length-append (filter p a) (e ∷ filter p b)) few

filter_fewer : (p q : Entry → Bool) (es : List Entry) → length (filter q (filter p es)) ≤ length (filter q es)
unfolding filter
filter_fewer p q [] = omega arith
filter_fewer p q (e ∷ es) = go (p e) (q e) refl (filter_fewer p q es)
  where
    go : (b c : Bool) → q e ≡ c → length (filter q (filter p es)) ≤ length (filter q es) → length (filter q (cond b (e ∷ filter p es) (filter p es))) ≤ length (cond c (e ∷ filter q es) (filter q es))
    go true true k h = subst (λ (t : Bool). length (cond t (e ∷ filter q (filter p es)) (filter q (filter p es))) ≤ suc (length (filter q es))) (sym k) (omega (arith, h))
    go true false k h = subst (λ (t : Bool). length (cond t (e ∷ filter q (filter p es)) (filter q (filter p es))) ≤ length (filter q es)) (sym k) h
    go false true k h = omega (arith, h)
    go false false k h = h

-- what a read of handle h shows: an entry of file f with the content that the store keeps
pub record ShownAt (es : List Entry) (f : ℕ) (x : View) : Type 0 where
  pub entry : Entry
  pub shown : first (filter (is_at x.at.unit x.at.position) (pick is_current_file es)) ≡ some entry
  pub file : num entry ≡ f
  pub same : view entry ≡ x

-- the kept entry of a file is shown at its handle
pub shown_at_lem : (es : List Entry) (f : ℕ) (x : View) → shown_of (seen f (pick is_current_file es)) ≡ some x → length (filter (is_at x.at.unit x.at.position) es) ≤ 1 → ShownAt es f x
unfolding is_at of_file filter pick first
shown_at_lem es f x k few = go (filter (of_file f) (pick is_current_file es)) refl k
  where
    at : Entry → Bool
    at = is_at x.at.unit x.at.position

    go : (l : List Entry) → filter (of_file f) (pick is_current_file es) ≡ l → shown_of (views l) ≡ some x → ShownAt es f x
    go [] q z = none_some x z
    go (e ∷ l) q z =
        record {
          entry = e;
          shown = ap first (ap (filter at) h.whole ∙ alone_first at h.front e h.back here (subst (λ (y : List Entry). length (filter at y) ≤ 1) h.whole (omega (arith, few, filter_fewer (λ (y : Entry). is_current_file y.descriptor) at es))));
          file = eq_of (num e) f h.pass;
          same = is;
        }
      where
        h : FirstThat (of_file f) (pick is_current_file es) e l
        h = filter_head (of_file f) (pick is_current_file es) e l q

        is : view e ≡ x
        is = cc

        here : at e ≡ true
        here = ap (λ (y : View). eqb e.at.unit y.at.unit && eqb e.at.position y.at.position) (sym is) ∙ ap₂ (λ (s t : Bool). s && t) (eqb_same e.at.unit) (eqb_same e.at.position)

-- what a handle read shows is what the store keeps of its file
pub kept_at : (es : List Entry) (L p : ℕ) (e : Entry) → first (filter (is_at L p) (pick is_current_file es)) ≡ some e → pairs (pick is_current_file es) ≡ 0
    → (shown_of (seen (num e) (pick is_current_file es)) ≡ some (view e)) × (e.at.unit ≡ L) × (e.at.position ≡ p)
unfolding first of_file is_at
kept_at es L p e k z = go (filter (is_at L p) (pick is_current_file es)) refl k
  where
    cs : List Entry
    cs = pick is_current_file es

    go : (l : List Entry) → filter (is_at L p) cs ≡ l → first l ≡ some e → (shown_of (seen (num e) cs) ≡ some (view e)) × (e.at.unit ≡ L) × (e.at.position ≡ p)
    go [] q w = none_some e w
    go (y ∷ l) q w = (
      ap (λ (r : List Entry). shown_of (views r)) (ap (filter (of_file (num e))) h.whole ∙ alone_first (of_file (num e)) h.front e h.back (eqb_same (num e)) (subst (λ (r : List Entry). length (filter (of_file (num e)) r) ≤ 1) h.whole (pairs_few (num e) cs z))),
      eq_of e.at.unit L (and_l (eqb e.at.unit L) (eqb e.at.position p) h.pass),
      eq_of e.at.position p (and_r (eqb e.at.unit L) (eqb e.at.position p) h.pass),
    )
      where
        same : y ≡ e
        same = cc

        h : FirstThat (is_at L p) cs e l
        h = filter_head (is_at L p) cs e l (q ∙ ap (λ (r : Entry). r ∷ l) same)

-- ---- of the entries of an image: no two have one handle
module _ (g : Geometry) where
  other_unit : (M p L k : ℕ) (rest : Bytes) (i : ℕ) (ds : List Descriptor) → M ≢ L → filter (is_at M p) (home_entries g L k rest i ds) ≡ []
  unfolding filter is_at
  other_unit M p L k rest i [] n = refl
  other_unit M p L k rest i (d ∷ ds) n =
      ap (λ (b : Bool). cond (b && eqb i p) (entry_at g L k rest i d ∷ filter (is_at M p) (home_entries g L k rest (suc i) ds)) (filter (is_at M p) (home_entries g L k rest (suc i) ds))) (differ (λ (e : L ≡ M). n (sym e)))
      ∙ other_unit M p L k rest (suc i) ds n

  past : (M p L k : ℕ) (rest : Bytes) (i : ℕ) (ds : List Descriptor) → p < i → filter (is_at M p) (home_entries g L k rest i ds) ≡ []
  unfolding filter is_at
  past M p L k rest i [] n = refl
  past M p L k rest i (d ∷ ds) n =
      ap (λ (b : Bool). cond b (entry_at g L k rest i d ∷ filter (is_at M p) (home_entries g L k rest (suc i) ds)) (filter (is_at M p) (home_entries g L k rest (suc i) ds)))
      (ap (λ (b : Bool). eqb L M && b) (differ (λ (e : i ≡ p). let w : ⊥ = omega arith in w)) ∙ and_false (eqb L M))
      ∙ past M p L k rest (suc i) ds (omega arith)

  few_in : (M p L k : ℕ) (rest : Bytes) (i : ℕ) (ds : List Descriptor) → length (filter (is_at M p) (home_entries g L k rest i ds)) ≤ 1
  unfolding filter is_at
  few_in M p L k rest i [] = omega arith
  few_in M p L k rest i (d ∷ ds) = go (ℕ_discrete i p) (few_in M p L k rest (suc i) ds)
    where
      more : List Entry
      more = filter (is_at M p) (home_entries g L k rest (suc i) ds)

      at_most : (b : Bool) → more ≡ [] → length (cond b (entry_at g L k rest i d ∷ more) more) ≤ 1
      at_most true e = omega (arith, ap length e)
      at_most false e = omega (arith, ap length e)

      go : Dec (i ≡ p) → length more ≤ 1 → length (cond (eqb L M && eqb i p) (entry_at g L k rest i d ∷ more) more) ≤ 1
      go (yes e) h = at_most (eqb L M && eqb i p) (past M p L k rest (suc i) ds (omega (arith, e)))
      go (no n) h = subst (λ (b : Bool). length (cond b (entry_at g L k rest i d ∷ more) more) ≤ 1) (sym (ap (λ (b : Bool). eqb L M && b) (differ n) ∙ and_false (eqb L M))) h

  above : (M p L : ℕ) (ps : List LaidHome) → M < L → filter (is_at M p) (all_entries g L ps) ≡ []
  unfolding filter
  above M p L [] n = refl
  above M p L (q ∷ ps) n =
      filter_append (is_at M p) (home_entries g L q.phys q.rest 0 q.array) (all_entries g (suc L) ps)
      ∙ ap₂ (λ (a b : List Entry). a ++ b) (other_unit M p L q.phys q.rest 0 q.array (λ (e : M ≡ L). let w : ⊥ = omega arith in w)) (above M p (suc L) ps (omega arith))

  pub one_handle : (M p L : ℕ) (ps : List LaidHome) → length (filter (is_at M p) (all_entries g L ps)) ≤ 1
  unfolding filter
  one_handle M p L [] = omega arith
  one_handle M p L (q ∷ ps) = go (ℕ_discrete M L) (one_handle M p (suc L) ps)
    where
      mine : List Entry
      mine = filter (is_at M p) (home_entries g L q.phys q.rest 0 q.array)

      split : length (filter (is_at M p) (home_entries g L q.phys q.rest 0 q.array ++ all_entries g (suc L) ps)) ≡ length mine + length (filter (is_at M p) (all_entries g (suc L) ps))
      split = ap length (filter_append (is_at M p) (home_entries g L q.phys q.rest 0 q.array) (all_entries g (suc L) ps)) ∙ length-append mine (filter (is_at M p) (all_entries g (suc L) ps))

      go : Dec (M ≡ L) → length (filter (is_at M p) (all_entries g (suc L) ps)) ≤ 1 → length (filter (is_at M p) (home_entries g L q.phys q.rest 0 q.array ++ all_entries g (suc L) ps)) ≤ 1
      go (yes e) h = omega (arith, split, few_in M p L q.phys q.rest 0 q.array, ap length (above M p (suc L) ps (omega (arith, e))))
      go (no n) h = omega (arith, split, h, ap length (other_unit M p L q.phys q.rest 0 q.array n))
