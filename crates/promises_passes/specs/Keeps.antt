-- What holds along every history of the piece.
use Rattle.std.proofs.Math.Path.{◌≡◌, refl, ap, subst}
use Rattle.std.proofs.Common.{sym, ◌∙◌, arith, eqb-true}
use Rattle.std.specs.Prelude.{Bool, not, ℕ, ltb}
use Rattle.std.proofs.Math.Bool.{true, false, cond}
use Rattle.std.proofs.Math.Option.{Option, none, some}
use Rattle.std.proofs.Math.Dec.{eqb}
use Rattle.rules.specs.Flash.{Bytes}
use Rattle.rules.specs.Answers.{Outcome, given}
use Rattle.rules.specs.Calls.{Call, abort, begin, commit, delete, format, has_none, mount, read, read_at, read_open, write}
use Rattle.rules.specs.Histories.{Changes, Plain, begun, changed, changed_to, committed, dropped, ended_in, follow, is_done, laid_down, no_changes, unless}
use Rattle.rules.specs.Settled.{survey}
use Rattle.rules.specs.declared.Geometry.{Geometry}
use Rattle.promises_passes.specs.Words.{is_commit, is_others, is_ours}

-- ---- the store's other calls leave files 1 to 127, and a transaction's changes of them
unfoldable pub Clear : Plain → Type 0
Clear m = (o : Changes) → m.changes ≡ some o → (f : ℕ) → is_ours f ≡ true → o f ≡ none

pub none_some : {A : Type 0} {o : Changes} → none ≡ some o → A
none_some {A} {o} e = let z : ◌≡◌ {A = ℕ} 0 1 = cc in absurd (omega arith)

ours_not : (b : Bool) → b ≡ true → not b ≡ true → ◌≡◌ {A = ℕ} 0 1
ours_not true e n = cc
ours_not false e n = cc

module _ (g : Geometry) (m : Plain) where
  pub files_keep : (c : Call) (a : Outcome) → (is_commit c ≡ true → Clear m) → (f : ℕ) → is_ours f ≡ true → (follow g c a m).files f ≡ m.files f
  unfolding follow is_commit ended_in Clear
  files_keep (format k) a cl f h = refl
  files_keep (mount k) a cl f h = go (has_none (survey g a.image))
    where
      go : (b : Bool) → (cond b (dropped m) m).files f ≡ m.files f
      go true = unfold dropped in refl
      go false = refl
  files_keep (abort k) a cl f h = go (has_none (survey g a.image))
    where
      go : (b : Bool) → (cond b (dropped m) m).files f ≡ m.files f
      go true = unfold dropped in refl
      go false = refl
  files_keep (begin rule k) a cl f h = go (is_done a)
    where
      go : (b : Bool) → (cond b (begun m) m).files f ≡ m.files f
      go true = unfold begun in refl
      go false = refl
  files_keep (commit k) a cl f h = go (ltb 0 (given a.answer).steps) m.changes refl
    where
      go : (b : Bool) (x : Option Changes) → m.changes ≡ x → (cond b (committed m x) m).files f ≡ m.files f
      go true none e = unfold committed in refl
      go true (some o) e = unfold committed laid_down unless in ap (λ (y : Option (Option Bytes)). unless y (m.files f)) (cl refl o e f h)
      go false x e = refl
  files_keep (write rule i c k) a cl f h = go (is_done a) m.changes
    where
      go : (b : Bool) (x : Option Changes) → (cond b (changed_to m i (some c) x) m).files f ≡ m.files f
      go true none = unfold changed_to in refl
      go true (some o) = unfold changed_to in refl
      go false x = refl
  files_keep (delete rule i k) a cl f h = go (is_done a) m.changes
    where
      go : (b : Bool) (x : Option Changes) → (cond b (changed_to m i none x) m).files f ≡ m.files f
      go true none = unfold changed_to in refl
      go true (some o) = unfold changed_to in refl
      go false x = refl
  files_keep (read i) a cl f h = refl
  files_keep (read_open i) a cl f h = refl
  files_keep (read_at L p) a cl f h = refl

  pub dropped_clear : Clear (dropped m)
  unfolding dropped Clear
  dropped_clear o e f h = none_some e

  ended_clear : Clear m → (b : Bool) → Clear (cond b (dropped m) m)
  ended_clear cl true = dropped_clear
  ended_clear cl false = cl

  changed_clear : Clear m → (b : Bool) (i : ℕ) (y : Option Bytes) → not (is_ours i) ≡ true → (x : Option Changes) → m.changes ≡ x → Clear (cond b (changed_to m i y x) m)
  unfolding Clear changed_to
  changed_clear cl true i y n none e = cl
  changed_clear cl true i y n (some q) e = λ o p f h. let w : changed i y q ≡ o = cc in ap (λ (z : Changes). z f) (sym w) ∙ go f h (eqb f i) refl
    where
      other : (f : ℕ) → is_ours f ≡ true → eqb f i ≡ true → ◌≡◌ {A = ℕ} 0 1
      other f h t = let d : is_ours i ≡ true = subst (λ (j : ℕ). is_ours j ≡ true) (eqb-true f i t) h in ours_not (is_ours i) d n

      go : (f : ℕ) → is_ours f ≡ true → (t : Bool) → eqb f i ≡ t → changed i y q f ≡ none
      go f h true t = absurd (omega (arith, other f h t))
      go f h false t = unfold changed in (ap (λ (b : Bool). cond b (some y) (q f)) t ∙ cl q e f h)
  changed_clear cl false i y n x e = cl

  pub clear_keep : (c : Call) (a : Outcome) → is_others c ≡ true → Clear m → Clear (follow g c a m)
  unfolding follow is_others ended_in
  clear_keep (format k) a n cl = cl
  clear_keep (mount k) a n cl = ended_clear cl (has_none (survey g a.image))
  clear_keep (abort k) a n cl = ended_clear cl (has_none (survey g a.image))
  clear_keep (begin rule k) a n cl = go (is_done a)
    where
      go : (b : Bool) → Clear (cond b (begun m) m)
      go true = unfold Clear begun no_changes in (λ o e f h. let w : (λ (f : ℕ). none) ≡ o = cc in ap (λ (z : Changes). z f) (sym w))
      go false = cl
  clear_keep (commit k) a n cl = go (ltb 0 (given a.answer).steps) m.changes refl
    where
      go : (b : Bool) (x : Option Changes) → m.changes ≡ x → Clear (cond b (committed m x) m)
      go true none e = unfold committed in cl
      go true (some q) e = unfold committed Clear in (λ o e f h. none_some e)
      go false x e = cl
  clear_keep (write rule i c k) a n cl = changed_clear cl (is_done a) i (some c) n m.changes refl
  clear_keep (delete rule i k) a n cl = changed_clear cl (is_done a) i none n m.changes refl
  clear_keep (read i) a n cl = cl
  clear_keep (read_open i) a n cl = cl
  clear_keep (read_at L p) a n cl = cl
