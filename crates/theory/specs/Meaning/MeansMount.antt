-- A mount keeps what the store means: the files, and a transaction that is still open.
use Rattle.std.specs.Prelude.{List, [], ◌++◌, ◌∷◌, ◌≡◌, refl, ◌<◌, ℕ, length}
use Rattle.std.proofs.Common.{◌∙◌, ap, subst, sym, arith}
use Rattle.std.proofs.Math.Decide.{dec_lt}
use Rattle.rules.specs.Answers.{number}
use Rattle.rules.specs.Calls.{mount, outcome}
use Rattle.rules.specs.Flash.{Bytes}
use Rattle.rules.specs.Lists.{filter, first}
use Rattle.rules.specs.Settled.{Entry, Survey, of_file, pick, select, survey}
use Rattle.rules.specs.Unit.{is_current_file, is_pending_file}
use Rattle.rules.specs.Views.{committed_view, content_of}
use Rattle.rules.specs.declared.Geometry.{Geometry}
use Rattle.theory.specs.Images.Model.{all_entries, survey_read}
use Rattle.theory.specs.Tidying.Sorted.{Orderly, OrderlyE, Sorted, sorted, tidying, views, yield_by}
use Rattle.theory.specs.Tidying.Tidy.{Tidied}
use Rattle.theory.specs.Tidying.Held.{HeldEntries, survey_is}
use Rattle.theory.specs.Storing.Stores.{p}
use Rattle.theory.specs.Mounting.Mounts.{Mounted, Mounts, Sane, mount_call}
use Rattle.theory.specs.Mounting.TidyMounts.{safe_of, tidy_mounts}
use Rattle.theory.specs.Moves.Move.{Filling, Retired, Setting, CopyLive, copy_home, entries_down, homes_before, retired_home}
use Rattle.theory.specs.Moves.Stages.{Moving, once_live, once_retired, while_filling}
use Rattle.theory.specs.Mounting.MoveMounts.{MountsTo, moving_mounts}
use Rattle.theory.specs.Mounting.Kept.{KeptImage, calmly, while_moving}
use Rattle.theory.specs.Mounting.KeptMounts.{kept_sane}
use Rattle.theory.specs.Meaning.Means.{Means, Keeping, Weakly, bytes_of, shown_of, weakly_back, weakly_keeps, weakly_means, weakly_moved, with_open}

-- the descriptors of an image, as the jobs read them
abbrev pub lists_of : Geometry → Bytes → Sorted
lists_of g s = sorted (survey g s).entries

pub held_lists : (g : Geometry) (P : List Entry → Type 0) (s : Bytes) (h : HeldEntries g P s) → lists_of g s ≡ sorted (all_entries g 0 h.ps)
held_lists g P s h = ap (λ (v : Survey). sorted v.entries) (survey_is g P s h)

module _ (g : Geometry) (m : Setting g) where
  pub filling_lists : (r s : Bytes) → Filling g m r s → lists_of g s ≡ sorted (all_entries g 0 (homes_before g m))
  filling_lists r s k = ap (λ (x : Bytes). lists_of g x) k.image ∙ ap (λ (v : Survey). sorted v.entries) (survey_read g k.us (homes_before g m) m.sp k.stands)

  pub retired_lists : (s : Bytes) → Retired g m s → lists_of g s ≡ sorted (all_entries g 0 (homes_before g m))
  retired_lists s k =
      ap (λ (x : Bytes). lists_of g x) k.image
      ∙ ap (λ (v : Survey). sorted v.entries) (survey_read g k.us (m.hs ++ retired_home g m ∷ m.bs) m.sp k.stands)
      ∙ ap sorted (entries_down g m)

  pub taken_lists : (s : Bytes) → CopyLive g m s → lists_of g s ≡ sorted (all_entries g 0 (m.hs ++ copy_home g m ∷ m.bs))
  taken_lists s k = ap (λ (x : Bytes). lists_of g x) k.image ∙ ap (λ (v : Survey). sorted v.entries) (survey_read g k.us (m.hs ++ copy_home g m ∷ m.bs) m.p.phys k.stands)

  -- what holds before and after the move holds at each stage
  pub at_stage : (T : Sorted → Type 0) → T (sorted (all_entries g 0 (homes_before g m))) → T (sorted (all_entries g 0 (m.hs ++ copy_home g m ∷ m.bs))) → (s : Bytes) → Moving g m s → T (lists_of g s)
  at_stage T a b s (while_filling r k) = subst T (sym (filling_lists r s k)) a
  at_stage T a b s (once_retired k) = subst T (sym (retired_lists s k)) a
  at_stage T a b s (once_live k) = subst T (sym (taken_lists s k)) b

  pub from_stage : (b : Keeping) (s : Bytes) → Moving g m s → Weakly b (lists_of g s) → Weakly b (sorted (all_entries g 0 (homes_before g m)))
  from_stage b s (while_filling r k) w = subst (Weakly b) (filling_lists r s k) w
  from_stage b s (once_retired k) w = subst (Weakly b) (retired_lists s k) w
  from_stage b s (once_live k) w = weakly_back g m b (subst (Weakly b) (taken_lists s k) w)

-- what every image of a history is, beside the plain store that its history makes
pub record Inv (g : Geometry) (b : Keeping) (s : Bytes) : Type 0 where
  pub kept : KeptImage g s
  pub means : Means b (lists_of g s)

-- ---- mounting
module _ (g : Geometry) (b : Keeping) where
  abbrev Q : List Entry → Type 0
  Q l = Weakly b (sorted l)

  abbrev pub KeptWeakly : Bytes → Type 0
  KeptWeakly s = KeptImage g s × Weakly b (lists_of g s)

  held_weakly : (s : Bytes) → HeldEntries g (λ l. Orderly (sorted l) × Weakly b (sorted l)) s → KeptWeakly s
  held_weakly s h = (calmly (safe_of g Q (weakly_keeps b) s h), subst (Weakly b) (sym (held_lists g (λ l. Orderly (sorted l) × Weakly b (sorted l)) s h)) h.holds.1)

  pub record MeansMounts (s : Bytes) : Type 0 where
    pub steps : ℕ
    pub end : Bytes
    pub mounts : Mounts g KeptWeakly steps s end
    pub ended : HeldEntries g (λ l. Tidied (sorted l) × Weakly b (sorted l)) end

  pub means_mounts : (s : Bytes) → KeptImage g s → Weakly b (lists_of g s) → MeansMounts s
  means_mounts s (calmly h) w = record { steps = length (tidying (all_entries g 0 h.ps)); end = z.0; mounts = z.1; ended = z.2 }
    where
      here : Weakly b (sorted (all_entries g 0 h.ps))
      here = subst (Weakly b) (held_lists g OrderlyE s h) w

      h' : HeldEntries g (λ l. Orderly (sorted l) × Weakly b (sorted l)) s
      h' = record { us = h.us; ps = h.ps; sp = h.sp; image = h.image; stands = h.stands; ups = h.ups; bare = h.bare; holds = (h.holds, here) }

      z : (t : Bytes) × Mounts g KeptWeakly (length (tidying (all_entries g 0 h.ps))) s t × HeldEntries g (λ l. Tidied (sorted l) × Weakly b (sorted l)) t
      z = tidy_mounts g Q (weakly_keeps b) KeptWeakly held_weakly s h'
  means_mounts s (while_moving m k) w = record { steps = r.steps; end = r.end; mounts = r.mounts; ended = r.ended }
    where
      before : Weakly b (sorted (all_entries g 0 (homes_before g m)))
      before = from_stage g m b s k w

      after' : Weakly b (sorted (all_entries g 0 (m.hs ++ copy_home g m ∷ m.bs)))
      after' = weakly_moved g m b before

      stage : (u : Bytes) → Moving g m u → KeptWeakly u
      stage u z = (while_moving m z, at_stage g m (Weakly b) before after' u z)

      r : MountsTo g m Q (weakly_keeps b) after' KeptWeakly held_weakly stage s
      r = moving_mounts g m Q (weakly_keeps b) after' KeptWeakly held_weakly stage s k

  weakly_sane : (u : Bytes) → KeptWeakly u → Sane g u
  weakly_sane u p = kept_sane g u p.0

  -- a mount stopped anywhere
  pub mount_means : (s : Bytes) (k : ℕ) → Inv g b s → Inv g (with_open b (lists_of g (outcome g (mount k) s).image).opened) (outcome g (mount k) s).image
  mount_means s k i =
      let z = (mount_call g KeptWeakly weakly_sane s (means_mounts s i.kept i.means.weakly).mounts k).holds in
      record { kept = z.0; means = weakly_means b (lists_of g (outcome g (mount k) s).image) z.1 }

  -- a finished one shows the files
  pub mount_shows : (s : Bytes) (k : ℕ) → Inv g b s → number (outcome g (mount k) s).answer ≡ 0 → (f : ℕ) → content_of (committed_view f (survey g (outcome g (mount k) s).image)) ≡ bytes_of (b.files f)
  unfolding content_of first committed_view select
  mount_shows s k i z f = go (dec_lt k r.steps)
    where
      r : MeansMounts s
      r = means_mounts s i.kept i.means.weakly

      o : Mounted g KeptWeakly r.steps s r.end k (outcome g (mount k) s)
      o = mount_call g KeptWeakly weakly_sane s r.mounts k

      P : List Entry → Type 0
      P l = Tidied (sorted l) × Weakly b (sorted l)

      d : HeldEntries g (λ l. Tidied (sorted l) × Weakly b (sorted l)) r.end
      d = r.ended

      es : List Entry
      es = all_entries g 0 d.ps

      view_of : (l : List Entry) → content_of (first l) ≡ bytes_of (shown_of (views l))
      view_of [] = refl
      view_of (e ∷ l) = refl

      at_end_lem : content_of (committed_view f (survey g r.end)) ≡ bytes_of (b.files f)
      at_end_lem =
          ap (λ (v : Survey). content_of (committed_view f v)) (survey_is g P r.end d)
          ∙ view_of (filter (of_file f) (pick is_current_file es))
          ∙ sym (ap (λ (x : List Entry). bytes_of (shown_of (yield_by x (pick is_pending_file es) (pick is_current_file es) f))) d.holds.0.quiet.committed)
          ∙ ap bytes_of (d.holds.1.files f)

      go : Dec (k < r.steps) → content_of (committed_view f (survey g (outcome g (mount k) s).image)) ≡ bytes_of (b.files f)
      go (yes l) = absurd (let w : ⊥ = omega (arith, z, o.stopped l) in w)
      go (no l) = ap (λ (x : Bytes). content_of (committed_view f (survey g x))) (o.done (omega arith)).1 ∙ at_end_lem
