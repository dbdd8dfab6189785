-- One give on an image that a history reaches, and what is seen once it is mounted.
use Rattle.std.proofs.Math.Path.{◌≡◌, refl, sym, ap, subst}
use Rattle.std.proofs.Common.{◌∙◌, arith}
use Rattle.std.specs.Prelude.{◌⊎◌, Bool, ◌||◌, ℕ, ◌+◌, ◌≤◌, ◌<◌, eqb}
use Rattle.std.proofs.Math.Logic.{inl, inr}
use Rattle.std.proofs.Math.Bool.{true, false, cond}
use mathlib.Core.List.{List, [], ◌∷◌, ◌++◌, append_assoc, append-nil}
use Rattle.std.proofs.Math.Option.{Option, none, some}
use borrow.Author.Tests.{eq-eqb, le-ltb}
use Rattle.std.proofs.Math.ListN.{length}
use Rattle.rules.specs.Flash.{Bytes}
use Rattle.rules.specs.Answers.{content, number}
use Rattle.rules.specs.Calls.{Call, has_none, is_bad_file, mount, outcome, read}
use Rattle.rules.specs.Histories.{Files, Plain, Reached, as_made, called, dropped, ended_in, follow, is_format, takes_bytes}
use Rattle.rules.specs.Plain.{is_absent_in, is_settled, is_shut}
use Rattle.rules.specs.Settled.{survey}
use Rattle.rules.specs.Sound.{standing}
use Rattle.rules.specs.Views.{committed_view, content_of}
use Rattle.rules.specs.declared.Geometry.{Geometry}
use Rattle.rules.specs.declared.Standing.TheVariants.{Settled}
use Rattle.pass_rules.specs.Texts.{StaffList, pass_text, register_in, register_text}
use Rattle.pass_rules.specs.Give.{Looked, Went, counted, ends, finds, give, give_look, gives_at, is_on, next, not_full, refuses, register_look, register_report, read_by, two_of}
use Rattle.promises.specs.Demands.{files_after, mount_settles}
use Rattle.promises_passes.specs.Grammar.{register_of_text}
use Rattle.promises_passes.specs.Holds.{PassesHold, kept_holds, settled_still}
use Rattle.promises_passes.specs.Looked.{MayGive, allowed, count_plainly, look_plainly, read_bytes, read_number, still}
use Rattle.promises_passes.specs.Results.{WalkResult, pass_writes, starts_result}
use Rattle.promises_passes.specs.Walk.{HistoryCalls, and, end, give_reached, reached_all}
use Rattle.promises_passes.specs.Words.{Held, Kept, Later, Pass, after_call, after_give, called as call_made, follow_all, gave, grown, here, image_after, is_committed, later, nth, pass_file, plain_count, plain_list, plain_look, register_file, with_pass}

-- ---- mounts
unfoldable pub mounts : List ℕ → List Call
mounts [] = []
mounts (k ∷ ks) = mount k ∷ mounts ks

mounts_fit : (ks : List ℕ) → HistoryCalls (mounts ks)
unfolding mounts is_format takes_bytes
mounts_fit [] = end
mounts_fit (k ∷ ks) = and refl refl (mounts_fit ks)

mounts_keep : (g : Geometry) (ks : List ℕ) (s : Bytes) (m : Plain) → (follow_all g (mounts ks) s m).files ≡ m.files
unfolding mounts follow_all follow ended_in
mounts_keep g [] s m = refl
mounts_keep g (k ∷ ks) s m =
    let o = outcome g (mount k) s in
    mounts_keep g ks o.image (cond (has_none (survey g o.image)) (dropped m) m) ∙ go (has_none (survey g o.image))
  where
    go : (b : Bool) → (cond b (dropped m) m).files ≡ m.files
    go true = unfold dropped in refl
    go false = refl

module _ (g : Geometry) (t : Bytes) (m : Plain) (r : Reached g t m) (a b k : ℕ) where
  abbrev w : Went
  w = give g k a b t

  -- ---- a give that may be given
  pub may : (n : ℕ) → give_look g t a b ≡ finds n → MayGive (still g t m r) m a b n
  may n e = allowed m a b n (still g t m r) (sym (look_plainly g t m r a b) ∙ e)

  pub give_result : (n : ℕ) → give_look g t a b ≡ finds n → WalkResult g m.files (with_pass n a b m.files) t m w
  unfolding give gives_at with_pass
  give_result n e =
      let al = may n e in
      subst (λ (x : Looked ℕ). WalkResult g m.files (with_pass n a b m.files) t m (gives_at g k a b x t)) (sym e)
      (starts_result g k m (pass_writes n a b) t r al.shut (settled_still (standing g (survey g t)) al.still))

  refused_went : (n : ℕ) → give_look g t a b ≡ refuses n → w ≡ ends n 0 t
  unfolding give gives_at
  refused_went n e = ap (λ (x : Looked ℕ). gives_at g k a b x t) e

  -- The files after it.
  pub files_of_lem : ((follow_all g w.calls t m).files ≡ m.files) ⊎ ((n : ℕ) × (give_look g t a b ≡ finds n) × ((follow_all g w.calls t m).files ≡ with_pass n a b m.files))
  files_of_lem = go (give_look g t a b) refl
    where
      go : (x : Looked ℕ) → give_look g t a b ≡ x → ((follow_all g w.calls t m).files ≡ m.files) ⊎ ((n : ℕ) × (give_look g t a b ≡ finds n) × ((follow_all g w.calls t m).files ≡ with_pass n a b m.files))
      go (refuses n) e = inl (ap (λ (x : Went). (follow_all g x.calls t m).files) (refused_went n e) ∙ (unfold ends follow_all in refl))
      go (finds n) e = pick (is_committed g w.calls t) (give_result n e).files
        where
          pick : (c : Bool) → (follow_all g w.calls t m).files ≡ cond c (with_pass n a b m.files) m.files → ((follow_all g w.calls t m).files ≡ m.files) ⊎ ((n : ℕ) × (give_look g t a b ≡ finds n) × ((follow_all g w.calls t m).files ≡ with_pass n a b m.files))
          pick true h = inr (n, e, h)
          pick false h = inl h

  pub committed_found : is_committed g w.calls t ≡ true → (n : ℕ) × (give_look g t a b ≡ finds n)
  unfolding ends is_committed
  committed_found c = go (give_look g t a b) refl
    where
      go : (x : Looked ℕ) → give_look g t a b ≡ x → (n : ℕ) × (give_look g t a b ≡ finds n)
      go (refuses n) e = let z : false ≡ true = sym (ap (λ (x : Went). is_committed g x.calls t) (refused_went n e)) ∙ c in let y : ◌≡◌ {A = ℕ} 0 1 = cc in absurd (omega arith)
      go (finds n) e = (n, e)

  -- ---- both or neither
  pub both_mounted : (ks : List ℕ) (i : ℕ) → number (outcome g (mount i) (image_after g (mounts ks) w.image)).answer ≡ 0 → (f : ℕ)
      → content_of (committed_view f (survey g (outcome g (mount i) (image_after g (mounts ks) w.image)).image)) ≡ (follow_all g w.calls t m).files f
  both_mounted ks i e f =
      let q = reached_all g (mounts_fit ks) (give_reached g k a b r) in
      files_after g (image_after g (mounts ks) w.image) (follow_all g (mounts ks) w.image (follow_all g w.calls t m)) q i e f
      ∙ ap (λ (x : Files). x f) (mounts_keep g ks w.image (follow_all g w.calls t m))

  abbrev ShownAfter : List ℕ → ℕ → ℕ → Option Bytes
  ShownAfter ks i f = content_of (committed_view f (survey g (outcome g (mount i) (image_after g (mounts ks) w.image)).image))

  pub both : (ks : List ℕ) (i : ℕ) → number (outcome g (mount i) (image_after g (mounts ks) w.image)).answer ≡ 0
      → ((f : ℕ) → ShownAfter ks i f ≡ m.files f) ⊎ ((n : ℕ) × (give_look g t a b ≡ finds n) × ((f : ℕ) → ShownAfter ks i f ≡ with_pass n a b m.files f))
  both ks i e = go files_of_lem
    where
      go : ((follow_all g w.calls t m).files ≡ m.files) ⊎ ((n : ℕ) × (give_look g t a b ≡ finds n) × ((follow_all g w.calls t m).files ≡ with_pass n a b m.files))
          → ((f : ℕ) → ShownAfter ks i f ≡ m.files f) ⊎ ((n : ℕ) × (give_look g t a b ≡ finds n) × ((f : ℕ) → ShownAfter ks i f ≡ with_pass n a b m.files f))
      go (inl h) = inl (λ f. both_mounted ks i e f ∙ ap (λ (x : Files). x f) h)
      go (inr h) = inr (h.0, h.1, λ f. both_mounted ks i e f ∙ ap (λ (x : Files). x f) h.2)

  -- ---- a refusal with steps
  pub midway_leaves : 2 ≤ w.number → 0 < w.steps → ((follow_all g w.calls t m).files ≡ m.files) × ((follow_all g w.calls t m).changes ≡ none) × (standing g (survey g w.image) ≡ Settled)
  midway_leaves l p = go (give_look g t a b) refl
    where
      go : (x : Looked ℕ) → give_look g t a b ≡ x → ((follow_all g w.calls t m).files ≡ m.files) × ((follow_all g w.calls t m).changes ≡ none) × (standing g (survey g w.image) ≡ Settled)
      go (refuses n) e = absurd (omega (arith, ap (λ (x : Went). x.steps) (refused_went n e) ∙ none_made n))
        where
          none_made : (n : ℕ) → (ends n 0 t).steps ≡ 0
          none_made n = unfold ends in refl
      go (finds n) e =
          let h = give_result n e in
          (h.files ∙ pick (is_committed g w.calls t) refl, h.shut (λ q. omega arith), h.settled (λ q. omega arith))
        where
          pick : (c : Bool) → is_committed g w.calls t ≡ c → cond c (with_pass n a b m.files) m.files ≡ m.files
          pick true q = let h = (give_result n e).low q in absurd (omega arith)
          pick false q = refl

  -- ---- no list
  pub no_list : (n : ℕ) → plain_list (m.files 0) ≡ refuses n → (is_on w.number (4 ∷ 8 ∷ n ∷ []) ≡ true) × (w.steps ≡ 0) × (w.image ≡ t)
  unfolding ends plain_look next is_on
  no_list n e = go (still g t m r) (is_shut m.changes) (look_plainly g t m r a b)
    where
      done : (i : ℕ) → give_look g t a b ≡ refuses i → is_on i (4 ∷ 8 ∷ n ∷ []) ≡ true → (is_on w.number (4 ∷ 8 ∷ n ∷ []) ≡ true) × (w.steps ≡ 0) × (w.image ≡ t)
      done i q h = subst (λ (x : Went). (is_on x.number (4 ∷ 8 ∷ n ∷ []) ≡ true) × (x.steps ≡ 0) × (x.image ≡ t)) (sym (refused_went i q)) (h, refl, refl)

      last : is_on n (4 ∷ 8 ∷ n ∷ []) ≡ true
      last = pick (eqb n 4) (eqb n 8) (eqb n n) (eq-eqb n n refl)
        where
          pick : (x y z : Bool) → z ≡ true → x || (y || (z || false)) ≡ true
          pick true y z q = refl
          pick false true z q = refl
          pick false false true q = refl
          pick false false false q = q

      go : (s c : Bool) → give_look g t a b ≡ elim s as (λ j. Looked ℕ) [
        | true ↦ elim c as (λ j. Looked ℕ) [ true ↦ next (plain_list (m.files 0)) λ l. two_of a b l.people (next (plain_count (m.files 1)) not_full) | false ↦ refuses 8 ]
        | false ↦ refuses 4
      ] → (is_on w.number (4 ∷ 8 ∷ n ∷ []) ≡ true) × (w.steps ≡ 0) × (w.image ≡ t)
      go true true q = done n (q ∙ ap (λ (x : Looked StaffList). next x λ l. two_of a b l.people (next (plain_count (m.files 1)) not_full)) e) last
      go true false q = done 8 q refl
      go false c q = done 4 q refl

-- ---- what is seen after a mount
module _ (g : Geometry) (h : Held) (q : Kept g h) (i : ℕ) (e : number (outcome g (mount i) h.image).answer ≡ 0) where
  abbrev s : Bytes
  s = (outcome g (mount i) h.image).image

  abbrev m' : Plain
  m' = follow g (mount i) (outcome g (mount i) h.image) h.store

  held : PassesHold g h
  held = kept_holds g q

  there : Reached g s m'
  there = called (mount i) (unfold is_format in refl) (unfold takes_bytes in refl) held.reached as_made

  settled : still g s m' there ≡ true
  unfolding is_settled
  settled = ap is_settled (mount_settles g h.image h.store held.reached i e).0

  same_files : (f : ℕ) → m'.files f ≡ h.store.files f
  unfolding follow ended_in
  same_files f = go (has_none (survey g s))
    where
      go : (b : Bool) → (cond b (dropped h.store) h.store).files f ≡ h.store.files f
      go true = unfold dropped in refl
      go false = refl

  pub register_seen : register_report (register_look g s) ≡ record { number = 0; count = length h.passes }
  unfolding register_report plain_count register_file counted
  register_seen = ap register_report (count_plainly g s m' there settled ∙ ap plain_count (same_files 1 ∙ held.register) ∙ go h.passes held.few)
    where
      go : (ps : List Pass) → length ps ≤ 126 → plain_count (register_file ps) ≡ finds (length ps)
      go [] l = refl
      go (p ∷ ps) l =
          let x : register_in (register_text (length (p ∷ ps))) ≡ some (length (p ∷ ps)) = (register_of_text (register_text (length (p ∷ ps))) (length (p ∷ ps))).1 (l, refl) in
          ap counted x

  pub pass_seen : (j : ℕ) (p : Pass) → j < 126 → nth j h.passes ≡ some p → (number (outcome g (read (2 + j)) s).answer ≡ 0) × (content (outcome g (read (2 + j)) s) ≡ pass_text j p.first p.second)
  unfolding pass_file read_by is_absent_in is_bad_file
  pass_seen j p l x =
      let f : m'.files (2 + j) ≡ some (pass_text j p.first p.second) = same_files (2 + j) ∙ held.passes j l ∙ ap (pass_file j) x in
      let b : is_bad_file (2 + j) ≡ false = le-ltb 255 (2 + j) (omega arith) in
      (read_number g s m' there (2 + j) b settled (some (pass_text j p.first p.second)) f, read_bytes g s m' there (2 + j) b settled (pass_text j p.first p.second) f)

-- ---- a pass once given
grow : (made : Bool) (hs ps : List Pass) (p : Pass) → (qs : List Pass) × (ps ≡ hs ++ qs) → (rs : List Pass) × (grown made ps p ≡ hs ++ rs)
unfolding grown
grow true hs ps p x = (x.0 ++ (p ∷ []), ap (λ (y : List Pass). y ++ (p ∷ [])) x.1 ∙ append_assoc hs x.0 (p ∷ []))
grow false hs ps p x = x

pub only_grows : (g : Geometry) {h t : Held} → Later g h t → (qs : List Pass) × (t.passes ≡ h.passes ++ qs)
unfolding after_call after_give
only_grows g {h} here = ([], sym (append-nil h.passes))
only_grows g {h} (later {t} l (call_made c f b n a m)) = only_grows g l
only_grows g {h} (later {t} l (gave a b k o m)) =
    grow (is_committed g (give g k a b t.image).calls t.image) h.passes t.passes (record { first = a; second = b; list = t.store.files 0 }) (only_grows g l)

pub plus_none : {a b : ℕ} → a ≡ 0 + b → a ≡ b
plus_none {a} {b} e = omega arith
