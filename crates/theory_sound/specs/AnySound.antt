-- What holds of any sound image of bytes, reached or not: each is covered by what the jobs keep, so that its mounts restart and settle.
use Rattle.std.specs.Prelude.{Bool, cond, false, not, List, [], ◌∷◌, ◌≡◌, refl, ◌+◌, ◌-◌, ◌<◌, ◌≤◌, ℕ, drop, length, take}
use Rattle.std.proofs.Math.Bool.{true}
use Rattle.std.proofs.Common.{◌∙◌, zero-add, arith, length-drop}
use Rattle.std.proofs.Math.Path.{ap, subst, sym}
use Rattle.std.proofs.Math.Dec.{eqb}
use Rattle.rules.specs.Answers.{number}
use Rattle.rules.specs.Calls.{mount, outcome}
use Rattle.rules.specs.Flash.{Bytes, finish, is_geometry}
use Rattle.rules.specs.Jobs.{mount_job}
use Rattle.rules.specs.Lists.{all, filter}
use Rattle.rules.specs.Settled.{Home, Survey, counts, is_housed, is_live, is_quiet, is_spare, is_still, physical, select, survey, units_of}
use Rattle.rules.specs.Sound.{standing}
use Rattle.rules.specs.Unit.{is_open, live, receiving, retired}
use Rattle.rules.specs.declared.Geometry.{Geometry}
use Rattle.rules.specs.declared.Standing.TheVariants.{Settled}
use Rattle.laws.specs.Homes.{home_every, home_of as home_in, SettledParts, settled_parts}
use Rattle.laws.specs.Lists.{every_all}
use Rattle.theory.specs.Base.Facts.{all_cons, and_l, and_r, true_false, both, or_left}
use Rattle.theory.specs.Images.Blank.{spare_state}
use Rattle.theory.specs.Images.Layout.{are_bytes}
use Rattle.theory.specs.Images.Model.{all_entries, Stands, homes_of, name_of, survey_read, the_survey}
use Rattle.theory.specs.Images.Stand.{fine, live_all, not_neither}
use Rattle.theory.specs.Tidying.Sorted.{quiet_of, OrderlyE, Quiet, sorted}
use Rattle.theory.specs.Tidying.Held.{Safe, calm}
use Rattle.rules.specs.Histories.{after_mounts, mount_bound, mounting}
use Rattle.theory.specs.Mounting.Measure.{left, once_all}
use Rattle.theory.specs.Mounting.Mounts.{Moment, mount_call, mounts_after, mounts_end}
use Rattle.theory.specs.Mounting.Remounts.{mounts_few, mounts_same}
use Rattle.theory.specs.Mounting.Kept.{calmly}
use Rattle.theory.specs.Promised.Demanded.{Restarts, restarts_by, settles_by}
use Rattle.theory_sound.specs.Housed.{bytes_are, home_unit, image_is, sh, spare_is, laid_length, stands_so, state_word_lem, the_spare, the_laid_homes, the_units, unit_bytes, unit_long}
use Rattle.theory_sound.specs.Fine.{Cases, Ways, completes, dead_of, leaves, moves, orderly_of, receives, sound_cases, still}
use Rattle.theory_sound.specs.AnyMove.{all_up, down_is, filling_kept, others_live, others_up, retired_kept}
use Rattle.theory_sound.specs.OldLeft.{Covered, LastsOverMounts, SoundMounts, by_erase, by_kept, covered_lasts, covered_mounts}

-- no home that is not live: every home is live
none_dead : (hs : List Home) → dead_of hs ≡ 0 → all is_live hs ≡ true
unfolding all filter
none_dead [] h = refl
none_dead (x ∷ hs) h = go (is_live x) refl h (none_dead hs)
  where
    go : (b : Bool) → is_live x ≡ b → length (cond (not b) (x ∷ filter (λ (y : Home). not (is_live y)) hs) (filter (λ (y : Home). not (is_live y)) hs)) ≡ 0 → (dead_of hs ≡ 0 → all is_live hs ≡ true) → all is_live (x ∷ hs) ≡ true
    go true e k f = all_cons is_live x hs e (f k)
    go false e k f = absurd (let w : ⊥ = omega arith in w)

module _ (g : Geometry) (s : Bytes) (legal : is_geometry g (length s) ≡ true) (bytes : are_bytes s ≡ true) where
  abbrev v : Survey
  v = survey g s

  live_at : all is_live (survey g s).homes ≡ true → (L : ℕ) → L < g.units - 1 → eqb (home_unit g s L).state live ≡ true
  unfolding home_in survey is_live
  live_at h L l =
      subst (λ (n : ℕ). eqb (home_unit g s n).state live ≡ true) (zero-add L)
      (home_every g (units_of g s) (λ (x : Home). is_live x ≡ true) (g.units - 1) 0 L (every_all is_live (survey g s).homes h) l)

  module _ (housed : is_housed g (survey g s) ≡ true) where
    Off : Type 0
    Off = eqb (survey g s).spare.state live ≡ false

    Mark : Type 0
    Mark = (L : ℕ) → L < g.units - 1 → eqb (home_unit g s L).state live ≡ false → eqb (survey g s).spare.state retired ≡ false

    off_by : (n : ℕ) → (survey g s).spare.state ≡ n → eqb n live ≡ false → Off
    unfolding Off
    off_by n e h = ap (λ (x : ℕ). eqb x live) e ∙ h

    mark_live : all is_live (survey g s).homes ≡ true → Mark
    unfolding Mark
    mark_live h L l e = true_false (eqb (home_unit g s L).state live) (live_at h L l) e

    mark_by : (n : ℕ) → (survey g s).spare.state ≡ n → eqb n retired ≡ false → Mark
    unfolding Mark
    mark_by n e h L l z = ap (λ (x : ℕ). eqb x retired) e ∙ h

    module _ (off : Off) (mark : Mark) where
      st : Stands g (the_units g s) (the_laid_homes g s) (the_spare g s)
      unfolding Off Mark
      st = stands_so g s legal bytes housed off mark

      seen : survey g s ≡ the_survey g (the_units g s) (the_laid_homes g s) (the_spare g s) st
      seen = ap (survey g) (image_is g s legal bytes) ∙ survey_read g (the_units g s) (the_laid_homes g s) (the_spare g s) st

      below : (i : ℕ) → i < g.units - 1 → i < length (the_laid_homes g s)
      below i l = omega (arith, laid_length g s (g.units - 1) 0)

      -- a unit is moving
      cover_moving : is_quiet (counts (survey g s).entries) ≡ true → Ways g (survey g s).homes (survey g s).spare → Covered g s
      unfolding physical
      cover_moving q w = go (subst (λ (x : Survey). Ways g x.homes x.spare) seen w)
        where
          quiet' : is_quiet (counts (all_entries g 0 (the_laid_homes g s))) ≡ true
          quiet' = ap (λ (x : Survey). is_quiet (counts x.entries)) (sym seen) ∙ q

          i : ℕ
          i = name_of (the_units g s) (the_spare g s)

          go : Ways g (homes_of g 0 (the_laid_homes g s)) (the_survey g (the_units g s) (the_laid_homes g s) (the_spare g s) st).spare → Covered g s
          go (receives l recv d c) =
              let o = others_up g (the_units g s) (the_laid_homes g s) (the_spare g s) st quiet' i (below i l) (all_up g (the_laid_homes g s) d) in
              by_kept (filling_kept g (the_units g s) (the_laid_homes g s) (the_spare g s) st quiet' i (below i l) (o.0, o.1) refl s (image_is g s legal bytes) o.2 recv c)
          go (completes l recv d n c) =
              let e = down_is g (the_units g s) (the_laid_homes g s) (the_spare g s) st quiet' i (below i l) refl n in
              by_kept (retired_kept g (the_units g s) (the_laid_homes g s) (the_spare g s) st quiet' i (below i l) (others_live g (the_units g s) (the_laid_homes g s) (the_spare g s) st quiet' i (below i l) d e) refl s (image_is g s legal bytes)
              (ap are_bytes (bytes_are g s legal bytes v.spare (spare_is g s legal bytes)) ∙ unit_bytes g s legal bytes v.spare (spare_is g s legal bytes)) e recv c)
          go (leaves l ret d) =
              by_erase (record {
                us = the_units g s;
                ps = the_laid_homes g s;
                sp = the_spare g s;
                image = image_is g s legal bytes;
                stands = st;
                ups = all_up g (the_laid_homes g s) d;
                quiet = quiet_of (all_entries g 0 (the_laid_homes g s)) quiet';
                state = ret;
              })

    -- none is
    still_safe : is_still (survey g s) ≡ true → fine (counts (survey g s).entries) ≡ true → Safe g s
    unfolding is_still physical
    still_safe h f =
        record {
          us = the_units g s;
          ps = the_laid_homes g s;
          sp = the_spare g s;
          image = image_is g s legal bytes;
          stands = st off mark;
          ups = sym (live_all g 0 (the_laid_homes g s)) ∙ ap (λ (x : Survey). all is_live x.homes) (sym (seen off mark)) ∙ and_l (all is_live v.homes) (is_spare v.spare.bytes) h;
          bare = ap (λ (x : Survey). is_spare x.spare.bytes) (sym (seen off mark)) ∙ bare;
          holds = orderly_of (all_entries g 0 (the_laid_homes g s)) (ap (λ (x : Survey). fine (counts x.entries)) (sym (seen off mark)) ∙ f);
        }
      where
        bare : is_spare (survey g s).spare.bytes ≡ true
        bare = and_r (all is_live v.homes) (is_spare v.spare.bytes) h

        e : (survey g s).spare.state ≡ 0xFFFF
        e =
            state_word_lem g s legal bytes v.spare (spare_is g s legal bytes)
            ∙ spare_state g (omega (arith, (sh g s legal bytes).right.large)) v.spare.bytes (unit_long g s legal bytes v.spare (spare_is g s legal bytes)) bare

        off : Off
        off = off_by 0xFFFF e refl

        mark : Mark
        mark = mark_by 0xFFFF e refl

    cover : Cases g (survey g s) → Covered g s
    cover (still h f) = by_kept (calmly (still_safe h f))
    cover (moves q (receives l recv d c)) = cover_moving (off_by receiving recv refl) (mark_by receiving recv refl) q (receives l recv d c)
    cover (moves q (completes l recv d n c)) = cover_moving (off_by receiving recv refl) (mark_by receiving recv refl) q (completes l recv d n c)
    cover (moves q (leaves l ret d)) = cover_moving (off_by retired ret refl) (mark_live (none_dead v.homes d)) q (leaves l ret d)

-- ---- a settled image of bytes is safe, and quiet
module _ (g : Geometry) (s : Bytes) (legal : is_geometry g (length s) ≡ true) (bytes : are_bytes s ≡ true) (settled : standing g (survey g s) ≡ Settled) where
  abbrev parts : SettledParts g (survey g s)
  parts = settled_parts g (survey g s) settled

  pub settled_safe : Safe g s
  unfolding is_still
  settled_safe = still_safe g s legal bytes (sound_cases g (survey g s) (ap not_neither settled)).0 (both parts.live parts.spare) (or_left _ parts.quiet)

  pub settled_quiet : Quiet (sorted (all_entries g 0 settled_safe.ps))
  settled_quiet = calm g OrderlyE s settled_safe settled

-- ---- the theorems: s is any image of bytes in a right geometry that is settled or sound
module _ (g : Geometry) (s : Bytes) (legal : is_geometry g (length s) ≡ true) (bytes : are_bytes s ≡ true) (sound : not_neither (standing g (survey g s)) ≡ true) where
  -- Every sound image is covered: no unit is moving and its descriptors are orderly, or one is at a stage of a move, or a retired
  -- unit is left beside its live copy.
  pub sound_covered : Covered g s
  sound_covered = let c = sound_cases g (survey g s) sound in cover g s legal bytes c.0 c.1

  mendable : LastsOverMounts g s
  mendable = ((legal, sound), sound_covered)

  -- Every sound image mounts step by step, through sound images only, to a settled one, within the bound.
  pub sound_mounts : SoundMounts g s
  sound_mounts = covered_mounts g s mendable

  -- Mount never refuses it: DONE from some allowance on, STOPPED below it.
  pub mount_answers_sound : (n : ℕ) × ((k : ℕ) → n ≤ k → number (outcome g (mount k) s).answer ≡ 0) × ((k : ℕ) → k < n → number (outcome g (mount k) s).answer ≡ 1)
  mount_answers_sound =
      let m = sound_mounts in
      (m.steps, (λ k l. ((mount_call g (LastsOverMounts g) (λ u h. h.0) s m.mounts k).done l).0), λ k l. (mount_call g (LastsOverMounts g) (λ u h. h.0) s m.mounts k).stopped l)

  -- With the bound as its allowance, or more, it is DONE.
  pub bound_suffices_sound : (k : ℕ) → mount_bound g ≤ k → number (outcome g (mount k) s).answer ≡ 0
  bound_suffices_sound k l = let m = sound_mounts in ((mount_call g (LastsOverMounts g) (λ u h. h.0) s m.mounts k).done (omega (arith, m.few, l))).0

  -- Mount ends settled, with no transaction open.
  pub mount_settles_sound : (k : ℕ) → number (outcome g (mount k) s).answer ≡ 0
      → (standing g (survey g (outcome g (mount k) s).image) ≡ Settled) × (select is_open (survey g (outcome g (mount k) s).image) ≡ [])
  mount_settles_sound k z = let m = sound_mounts in settles_by g (LastsOverMounts g) (λ u h. h.0) s m.mounts m.ended k z

  -- The steps of any mounts, one after the other, with any allowances, add up to at most S/2 + 1 + (U - 1)(S - 16)/8.
  pub mounts_bounded_sound : (ks : List ℕ) → mounting g ks s ≤ mount_bound g
  mounts_bounded_sound ks =
      let m = sound_mounts in
      omega (arith, mounts_few g (LastsOverMounts g) (covered_lasts g) ks s mendable, once_all g (left g s), m.mounts.long, m.few)

  -- Restarts: after each of a mount's own steps the image that a finished mount leaves is the same, and one step less is left.
  pub restarts_sound : Restarts g s
  restarts_sound = restarts_by g (LastsOverMounts g) s sound_mounts.mounts

  -- Stopped any number of times: what suffices for s suffices after it, and leaves the same image.
  pub stops_sound : (ks : List ℕ) (j : ℕ) → number (outcome g (mount j) s).answer ≡ 0
      → (number (outcome g (mount j) (after_mounts g ks s)).answer ≡ 0)
      × ((k : ℕ) → number (outcome g (mount k) (after_mounts g ks s)).answer ≡ 0 → (outcome g (mount k) (after_mounts g ks s)).image ≡ (outcome g (mount j) s).image)
  stops_sound = mounts_same g (LastsOverMounts g) (covered_lasts g) s mendable

  -- The same after any number of its steps: the image that they leave is sound, a finished mount of it leaves what it left, and so many
  -- steps less are left.
  pub record RestartsAfter (k : ℕ) : Type 0 where
    pub sane : not_neither (standing g (survey g (finish (take k (left g s)) s))) ≡ true
    pub same : finish (mount_job g (finish (take k (left g s)) s) (survey g (finish (take k (left g s)) s))) (finish (take k (left g s)) s) ≡ finish (mount_job g s (survey g s)) s
    pub less : length (left g (finish (take k (left g s)) s)) + k ≡ length (left g s)

  pub restarts_after_sound : (k : ℕ) → k ≤ length (left g s) → RestartsAfter k
  restarts_after_sound k l =
      record { sane = a.holds.0.1; same = a.same ∙ sym (mounts_end sound_mounts.mounts); less = omega (arith, once_all g (left g u), a.falls, once_all g (drop k (left g s)), length-drop k (left g s), l) }
    where
      u : Bytes
      u = finish (take k (left g s)) s

      a : Moment g (LastsOverMounts g) sound_mounts.end (drop k (left g s)) (finish (take k (left g s)) s)
      a = mounts_after sound_mounts.mounts k
