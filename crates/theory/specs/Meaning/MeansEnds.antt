-- Abort and commit, and what the store means after them.
use Rattle.std.specs.Prelude.{Bool, cond, false, true, ◌≡◌, refl, ℕ, length}
use mathlib.Core.List.{List, [], ◌∷◌}
use Rattle.std.proofs.Math.Option.{Option, none, some}
use Rattle.std.proofs.Common.{◌∙◌, sym, arith}
use Rattle.std.proofs.Math.Path.{ap, subst}
use Rattle.rules.specs.Answers.{makes, origin}
use Rattle.rules.specs.Calls.{abort, allowance, has_none, outcome, plan, refuse}
use Rattle.rules.specs.Flash.{Bytes, Step, apply, idle, made, program}
use Rattle.rules.specs.Jobs.{abort_job, commit_job}
use Rattle.rules.specs.Lists.{filter}
use Rattle.rules.specs.Settled.{Entry, is_spare, of_file, pairs, pick, survey}
use Rattle.rules.specs.Unit.{is_data, is_open}
use Rattle.rules.specs.declared.NotDone.TheVariants.{NoTransaction}
use Rattle.rules.specs.declared.Geometry.{Geometry}
use Rattle.rules.specs.declared.Handle.{Handle}
use Rattle.theory.specs.Base.Facts.{FirstThat}
use Rattle.theory.specs.Base.Along.{Along, along_map}
use Rattle.theory.specs.Images.Units.{join}
use Rattle.theory.specs.Images.Model.{all_entries}
use Rattle.theory.specs.Images.Turn.{Turned, set_e, turned}
use Rattle.theory.specs.Images.Stand.{Turnable}
use Rattle.theory.specs.Tidying.Flat.{finishes, next_both}
use Rattle.theory.specs.Tidying.Sorted.{Orderly, OrderlyE, Quiet, SameE, Sorted, View, over, seen, sorted, tidying, view, yield_by}
use Rattle.theory.specs.Tidying.Tidy.{next}
use Rattle.theory.specs.Tidying.Held.{HeldEntries, Safe, along_held, calm, carried, held_map, held_same, makes_job, refuse_makes, settled_makes, survey_is}
use Rattle.theory.specs.Tidying.Ends.{abort_job_lem, after_lists, after_step, commit_job_lem, commit_orderly, commit_turn, the_open}
use Rattle.theory.specs.Storing.Stores.{p}
use Rattle.theory.specs.Mounting.Kept.{KeptImage, calmly, while_moving}
use Rattle.theory.specs.Mounting.KeptMounts.{moving_unsettled}
use Rattle.theory.specs.Meaning.Means.{Drafts, Views, Match, Means, Keeping, Weakly, change_by, change_of, laid_k, means_same, shown_of, weakly_keeps}
use Rattle.theory.specs.Meaning.Means.{weakly_means, laid_on, with_open}
use Rattle.theory.specs.Meaning.MeansMount.{Inv, held_lists, lists_of}

module _ (g : Geometry) (b : Keeping) where
  abbrev With' : List Entry → Type 0
  With' l = Orderly (sorted l) × Weakly b (sorted l)

  abbrev pub held_with : (s : Bytes) (h : Safe g s) → Weakly b (lists_of g s) → HeldEntries g (λ l. Orderly (sorted l) × Weakly b (sorted l)) s
  held_with s h w = record { us = h.us; ps = h.ps; sp = h.sp; image = h.image; stands = h.stands; ups = h.ups; bare = h.bare; holds = (h.holds, subst (Weakly b) (held_lists g OrderlyE s h) w) }

  -- the tidying of any entries, with what it keeps
  pub tidy_along : (es : List Entry) → Orderly (sorted es) × Weakly b (sorted es) → (s : Bytes) → HeldEntries g (λ l. l ≡ es) s → Along (HeldEntries g (λ l. Orderly (sorted l) × Weakly b (sorted l))) s (tidying es)
  tidy_along es p s h =
      (along_held g With' (finishes With' SameE tidying (next_both OrderlyE (λ l. Weakly b (sorted l)) SameE tidying (weakly_keeps b) next) es p).turns s h).0

  pub inv_of : (s : Bytes) → HeldEntries g (λ l. Orderly (sorted l) × Weakly b (sorted l)) s → Inv g (with_open b (lists_of g s).opened) s
  inv_of s h =
      record {
        kept = calmly (held_map g With' OrderlyE (λ l p. p.0) s h);
        means = weakly_means b (lists_of g s) (subst (Weakly b) (sym (held_lists g With' s h)) h.holds.1);
      }

  -- ---- abort
  pub abort_means : (s : Bytes) (k : ℕ) → Inv g b s → Inv g (with_open b (lists_of g (outcome g (abort k) s).image).opened) (outcome g (abort k) s).image
  unfolding plan outcome allowance
  abort_means s k i = carried P (plan g s (abort k)) k s same (λ a job q. go i.kept a job q)
    where
      P : Bytes → Type 0
      P u = Inv g (with_open b (lists_of g u).opened) u

      same : Inv g (with_open b (lists_of g s).opened) s
      same = subst (λ (x : Keeping). Inv g x s) (sym (means_same b (lists_of g s) i.means)) i

      go : KeptImage g s → (a : Handle) (job : List Step) → plan g s (abort k) ≡ makes a job → Along P s job
      go (while_moving m z) a job q = absurd (moving_unsettled g m s z (settled_makes g s (λ v. refuse (has_none v) NoTransaction (makes origin (abort_job v))) a job q).1)
      go (calmly h) a job q =
          let r = settled_makes g s (λ v. refuse (has_none v) NoTransaction (makes origin (abort_job v))) a job q in
          let t = refuse_makes (has_none (survey g s)) NoTransaction (makes origin (abort_job (survey g s))) a job r.2 in
          subst (λ (j : List Step). Along P s j) (sym (abort_job_lem g s h (calm g OrderlyE s h r.1)) ∙ makes_job origin a (abort_job (survey g s)) job t.1)
          (along_map (HeldEntries g With') P (λ u x. inv_of u x) (tidying (all_entries g 0 h.ps)) s
          (tidy_along (all_entries g 0 h.ps) (held_with s h i.means.weakly).holds s (held_same g OrderlyE s h)))

-- ---- commit
-- the image once the commit step is made
pub commit_there : (g : Geometry) (s : Bytes) (h : Safe g s) (c : Quiet (sorted (all_entries g 0 h.ps))) (t : Entry) (q : pick is_open (all_entries g 0 h.ps) ≡ t ∷ [])
    → HeldEntries g (λ l. l ≡ after_step g s h c t q) (made (program t.place 0xFFF8) s)
commit_there g s h c t q =
    record {
      us = T.us';
      ps = T.ps';
      sp = h.sp;
      image = ap (made (program t.place 0xFFF8)) h.image ∙ T.image;
      stands = T.stands;
      ups = T.ups ∙ h.ups;
      bare = ap is_spare T.spare ∙ h.bare;
      holds = T.entries;
    }
  where
    hd : FirstThat (λ (x : Entry). is_open x.descriptor) (all_entries g 0 h.ps) t []
    hd = the_open g s h c t q

    k : Turnable t 0xFFF8 0xFFF8
    k = commit_turn g s h c t q

    T : Turned g h.us h.ps h.sp (after_step g s h c t q) (made (program t.place 0xFFF8) (join h.us))
    T = turned g h.us h.sp hd.front t hd.back 0xFFF8 0xFFF8 k.to k.like k.is k.full h.ps h.stands hd.whole

-- the plain store once the commit step is made
abbrev pub commits : Keeping → Keeping
commits b = record { files = elim b.changes as (λ j. Views) [ none ↦ b.files | some o ↦ laid_k o b.files ]; changes = none }

module _ (g : Geometry) (b : Keeping) where
  -- what the commit step makes of the lists
  commit_weakly : (l : Sorted) → Quiet l → (t : Entry) → l.opened ≡ t ∷ [] → Weakly b l → (t' : Entry)
      → Weakly (commits b) (record { torn = []; allocated = []; committed = t' ∷ []; opened = []; pending = l.pending; current = l.current })
  commit_weakly l c t q w t' = record { files = files'; matches = tt }
    where
      mt : (o : Drafts) × (b.changes ≡ some o) × (pairs l.pending ≡ 0 → (f : ℕ) → change_of l.pending f ≡ o f)
      mt = subst (λ (x : List Entry). Match x l.pending b.changes) q w.matches

      before : (f : ℕ) → shown_of (seen f l.current) ≡ b.files f
      before f = sym (ap (λ (x : List Entry). shown_of (yield_by x l.pending l.current f)) c.committed) ∙ w.files f

      each : (f : ℕ) (ps : List Entry) → shown_of (over ps (seen f l.current)) ≡ laid_on (change_by ps) (b.files f)
      each f [] = before f
      each f (e ∷ ps) = pick (is_data e.descriptor)
        where
          pick : (d : Bool) → shown_of (cond d (view e ∷ []) []) ≡ cond d (some (view e)) none
          pick true = refl
          pick false = refl

      files' : (f : ℕ) → shown_of (over (filter (of_file f) l.pending) (seen f l.current)) ≡ (commits b).files f
      files' f =
          each f (filter (of_file f) l.pending)
          ∙ ap (λ (x : Option (Option View)). laid_on x (b.files f)) (mt.2 c.pending f)
          ∙ sym (ap (λ (o : Option Drafts). (elim o as (λ j. Views) [ none ↦ b.files | some o ↦ laid_k o b.files ]) f) mt.1)

  closed_plain : (x : List Entry) → with_open (commits b) x ≡ commits b
  closed_plain [] = refl
  closed_plain (t ∷ ts) = refl

  -- before its first step a commit has done nothing; after it, all that is to be shown
  pub commit_along : (s : Bytes) (h : Safe g s) → Means b (lists_of g s) → Quiet (sorted (all_entries g 0 h.ps)) → (t : Entry) → pick is_open (all_entries g 0 h.ps) ≡ t ∷ []
      → (xs : List Step) × (commit_job (survey g s) ≡ program t.place 0xFFF8 ∷ xs) × (idle (program t.place 0xFFF8) s ≡ false) × Along (Inv g (commits b)) (made (program t.place 0xFFF8) s) xs
  unfolding made
  commit_along s h e c t q = (
    tidying new,
    ap commit_job (survey_is g OrderlyE s h) ∙ commit_job_lem g s h c t q,
    busy,
    along_map (HeldEntries g With'') (Inv g (commits b)) (λ u x. subst (λ (y : Keeping). Inv g y u) (closed_plain (lists_of g u).opened) (inv_of g (commits b) u x)) (tidying new) (made x s)
        (tidy_along g (commits b) new (
          commit_orderly g s h c t q,
          subst (Weakly (commits b)) (sym (after_lists g s h c t q))
              (commit_weakly (sorted (all_entries g 0 h.ps)) c t q (subst (Weakly b) (held_lists g OrderlyE s h) e.weakly) (set_e 0xFFF8 t)),
        )
        (made x s) (commit_there g s h c t q)),
  )
    where
      With'' : List Entry → Type 0
      With'' l = Orderly (sorted l) × Weakly (commits b) (sorted l)

      new : List Entry
      new = after_step g s h c t q

      x : Step
      x = program t.place 0xFFF8

      -- the step is a step: its lists differ from those before
      busy : idle x s ≡ false
      busy = go (idle x s) refl
        where
          go : (i : Bool) → idle x s ≡ i → i ≡ false
          go false z = refl
          go true z = absurd (let w : ⊥ = omega (arith, ap length clash) in w)
            where
              same : made x s ≡ s
              same = ap (λ (d : Bool). elim d as (λ j. Bytes) [ true ↦ s | false ↦ apply x s ]) z

              clash : [] ≡ t ∷ []
              clash =
                  sym (ap (λ (l : Sorted). l.opened) (after_lists g s h c t q))
                  ∙ sym (ap (λ (l : Sorted). l.opened) (held_lists g (λ l. l ≡ new) (made x s) (commit_there g s h c t q) ∙ ap sorted (commit_there g s h c t q).holds))
                  ∙ ap (λ (u : Bytes). (lists_of g u).opened) same
                  ∙ ap (λ (l : Sorted). l.opened) (held_lists g OrderlyE s h)
                  ∙ q
