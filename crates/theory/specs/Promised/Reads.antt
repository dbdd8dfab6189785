-- What the views and handles of a settled image show: the plain store, with its handles.
use Rattle.std.specs.Prelude.{Bool, ◌≡◌, ◌≤◌, ℕ, eqb, drop, length, take}
use Rattle.std.proofs.Math.Bool.{cond, false, not, true}
use mathlib.Core.List.{List, [], ◌∷◌}
use Rattle.std.proofs.Math.Option.{Option, none, some}
use Rattle.std.proofs.Common.{◌∙◌, ap, subst}
use Rattle.std.proofs.Math.Path.{refl, sym}
use Rattle.rules.specs.Jobs.{earlier_of}
use Rattle.rules.specs.Calls.{has_none, is_at, origin_of}
use Rattle.rules.specs.Flash.{Bytes}
use Rattle.rules.specs.Lists.{filter, first, is_none}
use Rattle.rules.specs.Plain.{has_change, is_change, is_shut}
use Rattle.rules.specs.Settled.{Entry, Survey, of_file, pick, select, survey}
use Rattle.rules.specs.Sound.{standing}
use Rattle.rules.specs.Unit.{is_current_file, is_data, is_mark, is_pending_file}
use Rattle.rules.specs.Views.{committed_view, laid_over, transaction_view, unless_mark}
use Rattle.rules.specs.declared.Geometry.{Geometry}
use Rattle.rules.specs.declared.Origin.TheVariants.{Before, Opened}
use Rattle.rules.specs.declared.Standing.TheVariants.{Settled}
use Rattle.theory.specs.Base.Facts.{eq_of, is_nil, true_false}
use Rattle.theory.specs.Images.Model.{all_entries}
use Rattle.theory.specs.Tidying.Sorted.{OrderlyE, Quiet, num, seen, sorted, view, views, yield_by}
use Rattle.theory.specs.Tidying.Held.{calm, survey_is}
use Rattle.theory.specs.Mounting.Kept.{KeptImage, calmly, while_moving}
use Rattle.theory.specs.Mounting.KeptMounts.{moving_unsettled}
use Rattle.theory.specs.Meaning.Means.{Drafts, Keeping, Match, Means, change_by, change_of, laid_on, shown_of}
use Rattle.theory.specs.Meaning.MeansMount.{held_lists, lists_of}
use Rattle.theory.specs.Promised.Histories.{change_in, changes_in, plain}
use Rattle.theory.specs.Images.Entries.{Each, Sits, SitsIn, current_sector, passed, pending_data, pending_sector, sits}
use Rattle.theory.specs.Meaning.Handles.{ShownAt, kept_at, none_some, one_handle, shown_at_lem}
use Rattle.theory.specs.Tidying.Sorted.{View}

-- ---- what is known of a settled image
pub record Calm (g : Geometry) (s : Bytes) : Type 0 where
  pub quiet : Quiet (lists_of g s)
  pub sits : Each (SitsIn s) (survey g s).entries
  pub handles : (L p : ℕ) → length (filter (is_at L p) (survey g s).entries) ≤ 1

pub calm_of : (g : Geometry) (s : Bytes) → KeptImage g s → standing g (survey g s) ≡ Settled → Calm g s
calm_of g s (while_moving m z) t = absurd (moving_unsettled g m s z t)
calm_of g s (calmly h) t =
    record {
      quiet = subst Quiet (sym (held_lists g OrderlyE s h)) (calm g OrderlyE s h t);
      sits = subst (Each (SitsIn s)) (sym are) (subst (λ (x : Bytes). Each (SitsIn x) (all_entries g 0 h.ps)) (sym h.image) (sits g h.us h.ps h.sp h.stands));
      handles = λ L p. subst (λ (x : List Entry). length (filter (is_at L p) x) ≤ 1) (sym are) (one_handle g L p 0 h.ps);
    }
  where
    are : (survey g s).entries ≡ all_entries g 0 h.ps
    are = ap (λ (v : Survey). v.entries) (survey_is g OrderlyE s h)

-- an entry's handle and content
abbrev pub entry_view : Option Entry → Option View
entry_view none = none
entry_view (some e) = some (view e)

pub first_is : (l : List Entry) (e : Entry) → first l ≡ some e → (r : List Entry) × (l ≡ e ∷ r)
unfolding first
first_is [] e h = none_some e h
first_is (x ∷ l) e h = (l, let same : x ≡ e = cc in ap (λ (y : Entry). y ∷ l) same)

-- ---- by the survey v of a settled image
module _ (v : Survey) (q : Quiet (sorted v.entries)) (b : Keeping) (k : Means b (sorted v.entries)) where
  pub current_files : (f : ℕ) → shown_of (seen f (pick is_current_file v.entries)) ≡ b.files f
  current_files f = sym (ap (λ (x : List Entry). shown_of (yield_by x (pick is_pending_file v.entries) (pick is_current_file v.entries) f)) q.committed) ∙ k.weakly.files f

  pub committed_view_lem : (f : ℕ) → entry_view (committed_view f v) ≡ b.files f
  unfolding first committed_view select
  committed_view_lem f = go (filter (of_file f) (pick is_current_file v.entries)) ∙ current_files f
    where
      go : (l : List Entry) → entry_view (first l) ≡ shown_of (views l)
      go [] = refl
      go (e ∷ l) = refl

  open_as : (l : List Entry) → Match l (pick is_pending_file v.entries) b.changes → (l ≡ [] → b.changes ≡ none) → is_none l ≡ is_shut (plain b).changes
  unfolding is_shut is_none
  open_as [] h a = go b.changes (a refl)
    where
      go : (o : Option Drafts) → o ≡ none → true ≡ is_shut (plain (record { files = b.files; changes = o })).changes
      go none e = refl
      go (some o) e = none_some o (sym e)
  open_as (t ∷ ts) h a = go b.changes h.1
    where
      go : (o : Option Drafts) → o ≡ some h.0 → false ≡ is_shut (plain (record { files = b.files; changes = o })).changes
      go none e = none_some h.0 e
      go (some o) e = refl

  pub open_is_lem : has_none v ≡ is_shut (plain b).changes
  unfolding has_none select
  open_is_lem = open_as (sorted v.entries).opened k.weakly.matches k.alone

  -- the pending entries are the transaction's changes
  pub pending_are : (o : Drafts) → b.changes ≡ some o → (f : ℕ) → change_of (pick is_pending_file v.entries) f ≡ o f
  pending_are o e f = go (sorted v.entries).opened k.weakly.matches k.alone
    where
      go : (l : List Entry) → Match l (pick is_pending_file v.entries) b.changes → (l ≡ [] → b.changes ≡ none) → change_of (pick is_pending_file v.entries) f ≡ o f
      go [] h a = none_some o (sym (a refl) ∙ e)
      go (t ∷ ts) h a = h.2 q.pending f ∙ ap (λ (x : Drafts). x f) (let z : some h.0 ≡ some o = sym h.1 ∙ e in let same : h.0 ≡ o = cc in same)

  -- an entry of a file is pending exactly where the transaction has a change of it
  pub origin_is : (o : Drafts) → b.changes ≡ some o → (f : ℕ) → origin_of f v ≡ cond (has_change f (plain b).changes) Opened Before
  unfolding earlier_of has_change is_change is_none origin_of select
  origin_is o e f =
      go (filter (of_file f) (pick is_pending_file v.entries)) (o f) (pending_are o e f)
      ∙ sym (ap (λ (y : Option Drafts). cond (has_change f (changes_in y)) Opened Before) e)
    where
      go : (l : List Entry) (x : Option (Option View)) → change_by l ≡ x → cond (is_none l) Before Opened ≡ cond (is_change (change_in x)) Opened Before
      go [] none h = refl
      go [] (some x) h = none_some x h
      go (e ∷ l) none h = none_some _ (sym h)
      go (e ∷ l) (some x) h = refl

  module _ (s : Bytes) (z : Each (SitsIn s) v.entries) where
    pub transaction_view_lem : (o : Drafts) → b.changes ≡ some o → (f : ℕ) → entry_view (transaction_view f v) ≡ laid_on (o f) (b.files f)
    unfolding laid_over first pick unless_mark transaction_view select
    transaction_view_lem o e f = go (filter (of_file f) (pick is_pending_file v.entries)) refl (pending_are o e f)
      where
        shown : (a m : Bool) (e : Entry) → a ≡ not m → entry_view (cond m none (some e)) ≡ cond a (some (view e)) none
        shown true true e h = true_false true refl h
        shown true false e h = refl
        shown false true e h = refl
        shown false false e h = true_false false h refl

        go : (l : List Entry) → filter (of_file f) (pick is_pending_file v.entries) ≡ l → change_by l ≡ o f → entry_view (laid_over (first l) (committed_view f v)) ≡ laid_on (o f) (b.files f)
        go [] r h = committed_view_lem f ∙ ap (λ (x : Option (Option View)). laid_on x (b.files f)) h
        go (x ∷ l) r h =
            let d = passed (SitsIn s) (λ (y : Entry). is_pending_file y.descriptor) (of_file f) v.entries z x l r in
            shown (is_data x.descriptor) (is_mark x.descriptor) x (pending_data x (d.has (pending_sector x d.one)).tagged d.one) ∙ ap (λ (x : Option (Option View)). laid_on x (b.files f)) h

    -- what a view shows has its bytes in the image
    pub committed_sits : (f : ℕ) (e : Entry) → committed_view f v ≡ some e → Sits s e
    unfolding committed_view pick select
    committed_sits f e h =
        let r = first_is (filter (of_file f) (pick is_current_file v.entries)) e h in
        let d = passed (SitsIn s) (λ (y : Entry). is_current_file y.descriptor) (of_file f) v.entries z e r.0 r.1 in
        d.has (current_sector e d.one)

    pub transaction_sits : (f : ℕ) (e : Entry) → transaction_view f v ≡ some e → Sits s e
    unfolding laid_over first pick unless_mark transaction_view select
    transaction_sits f e h = go (filter (of_file f) (pick is_pending_file v.entries)) refl h
      where
        unmarked : (m : Bool) (x : Entry) → cond m none (some x) ≡ some e → x ≡ e
        unmarked true x h = none_some e h
        unmarked false x h = cc

        go : (l : List Entry) → filter (of_file f) (pick is_pending_file v.entries) ≡ l → laid_over (first l) (committed_view f v) ≡ some e → Sits s e
        go [] r h = committed_sits f e h
        go (x ∷ l) r h =
            let d = passed (SitsIn s) (λ (y : Entry). is_pending_file y.descriptor) (of_file f) v.entries z x l r in
            subst (Sits s) (unmarked (is_mark x.descriptor) x h) (d.has (pending_sector x d.one))

    pub handle_sits : (L p : ℕ) (e : Entry) → first (filter (is_at L p) (select is_current_file v)) ≡ some e → Sits s e
    unfolding pick select
    handle_sits L p e h =
        let r = first_is (filter (is_at L p) (pick is_current_file v.entries)) e h in
        let d = passed (SitsIn s) (λ (y : Entry). is_current_file y.descriptor) (is_at L p) v.entries z e r.0 r.1 in
        d.has (current_sector e d.one)

  -- what a handle shows is its file's
  pub handle_view : (L p : ℕ) (e : Entry) → first (filter (is_at L p) (select is_current_file v)) ≡ some e → (b.files (num e) ≡ some (view e)) × (e.at.unit ≡ L) × (e.at.position ≡ p)
  unfolding select
  handle_view L p e h = let r = kept_at v.entries L p e h q.current in (sym (current_files (num e)) ∙ r.0, r.1, r.2)

  -- and a file's handle shows it
  pub file_handle : (f : ℕ) (x : View) → b.files f ≡ some x → length (filter (is_at x.at.unit x.at.position) v.entries) ≤ 1 → ShownAt v.entries f x
  file_handle f x h few = shown_at_lem v.entries f x (current_files f ∙ h) few

-- ---- the content that is given of an entry
pub shown_content : (s : Bytes) (e : Entry) → Sits s e → take e.descriptor.len (drop (cond (eqb e.descriptor.len 0) 0 e.start) s) ≡ e.content
shown_content s e z = go (eqb e.descriptor.len 0) refl
  where
    go : (c : Bool) → eqb e.descriptor.len 0 ≡ c → take e.descriptor.len (drop (cond c 0 e.start) s) ≡ e.content
    go true h = let n = eq_of e.descriptor.len 0 h in ap (λ (m : ℕ). take m (drop 0 s)) n ∙ sym (is_nil e.content (z.sized ∙ n))
    go false h = z.reads
