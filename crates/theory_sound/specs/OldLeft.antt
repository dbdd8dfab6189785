-- A retired unit beside its live copy, whatever else it holds: mounting is one erase, and then the tidying.
use Rattle.std.specs.Prelude.{Bool, cond, ◌≡◌, refl, get_or, length, replicate}
use Rattle.std.proofs.Math.Bool.{false, true}
use mathlib.Core.List.{List, [], ◌++◌, ◌∷◌}
use Rattle.std.proofs.Common.{◌∙◌, sym, arith, get_or-set_same}
use Rattle.std.proofs.Math.Path.{ap}
use Prim.Native.Nat.{◌*◌, ◌≤◌, suc, ℕ}
use Rattle.std.proofs.Math.Dec.{eqb}
use Rattle.std.proofs.lemmas.List.{length-replicate}
use Rattle.std.proofs.Math.ListN.{set}
use Rattle.rules.specs.Flash.{Bytes, Step, apply, erase, finish, idle, made, steps_of, word}
use Rattle.rules.specs.Histories.{mount_bound}
use Rattle.rules.specs.Jobs.{after_erase, emptied, finish_move, mount_job, move, tidy}
use Rattle.rules.specs.Lists.{all}
use Rattle.rules.specs.Settled.{Entry, Physical, is_spare, physical, survey}
use Rattle.rules.specs.Sound.{home_at}
use Rattle.rules.specs.Unit.{live, receiving, retired}
use Rattle.rules.specs.declared.Geometry.{Geometry}
use Rattle.theory.specs.Base.Along.{le}
use Rattle.theory.specs.Images.Units.{erase_unit, join, sized_get}
use Rattle.theory.specs.Images.Model.{all_entries, LaidHome, Stands, homes_of, is_up, name_of, state_at, survey_read, the_survey}
use Rattle.theory.specs.Tidying.Sorted.{Orderly, Quiet, quiet_unfinished, sorted, tidying, unfinished}
use Rattle.theory.specs.Tidying.Tidy.{Tidied}
use Rattle.theory.specs.Tidying.Held.{HeldEntries, Safe, held_map, survey_is}
use Rattle.theory.specs.Tidying.Ends.{mount_job_lem, tidy_as}
use Rattle.theory.specs.Moves.Moving.{spared}
use Rattle.theory.specs.Images.Blank.{blank_spare, blank_unit_lem, blank_body, spare_state}
use Rattle.theory.specs.Moves.FillFew.{seal_few}
use Rattle.theory.specs.Mounting.Mounts.{Mounts, Sane, mounts_map, rest_left}
use Rattle.theory.specs.Mounting.Remounts.{Lasting}
use Rattle.theory.specs.Tidying.Bound.{both_few, tidy_few}
use Rattle.theory.specs.Mounting.TidyMounts.{safe_of, tidy_mounts}
use Rattle.theory.specs.Mounting.Kept.{KeptImage, calmly}
use Rattle.theory.specs.Mounting.KeptMounts.{kept_mounts, kept_sane}

-- every home is live, and the unit left over is retired
pub record OldLeft (g : Geometry) (s : Bytes) : Type 0 where
  pub us : List Bytes
  pub ps : List LaidHome
  pub sp : ℕ
  pub image : s ≡ join us
  pub stands : Stands g us ps sp
  pub ups : all is_up ps ≡ true
  pub quiet : Quiet (sorted (all_entries g 0 ps))
  pub state : state_at us sp ≡ retired

-- an image is covered: it is kept by the jobs, or its retired unit is to be erased
pub data Covered (g : Geometry) (s : Bytes) : Type 0 where
  by_kept : KeptImage g s → Covered g s
  by_erase : OldLeft g s → Covered g s

-- what lasts over mounts: mounting does not refuse it, and it is covered
abbrev pub LastsOverMounts : Geometry → Bytes → Type 0
LastsOverMounts g s = Sane g s × Covered g s

abbrev kept_mendable : (g : Geometry) (s : Bytes) → KeptImage g s → LastsOverMounts g s
kept_mendable g s k = (kept_sane g s k, by_kept k)

-- mounting s ends at a settled image with no transaction open, within the bound
pub record SoundMounts (g : Geometry) (s : Bytes) : Type 0 where
  pub steps : ℕ
  pub end : Bytes
  pub mounts : Mounts g (LastsOverMounts g) steps s end
  pub ended : HeldEntries g (λ l. Tidied (sorted l)) end
  pub few : steps ≤ mount_bound g

kept_sound : (g : Geometry) (s : Bytes) → KeptImage g s → SoundMounts g s
kept_sound g s k =
    let m = kept_mounts g s k in
    record { steps = m.steps; end = m.end; mounts = mounts_map (kept_mendable g) m.mounts; ended = m.ended; few = m.few }

abbrev Any : List Entry → Type 0
Any l = Unit {0}

module _ (g : Geometry) (s : Bytes) (k : OldLeft g s) where
  abbrev x : Step
  x = erase (k.sp * g.size) g.size

  abbrev after : List Step
  after = tidying (all_entries g 0 k.ps)

  blank : replicate g.size 255 ≡ le 0xFFFF (le 0xFFFF (blank_body g))
  blank = blank_unit_lem g (omega (arith, k.stands.shape.right.large))

  -- the image after the erase
  erased_held : HeldEntries g (λ l. Orderly (sorted l) × Any l) (apply (erase (k.sp * g.size) g.size) s)
  unfolding made idle word
  erased_held = record {
    us = set k.us k.sp (replicate g.size 255);
    ps = k.ps;
    sp = k.sp;
    image = ap (made x) k.image ∙ erase_unit g k.us k.sp k.stands.sized k.stands.spare;
    stands = spared g k.us k.ps k.sp k.stands (replicate g.size 255) (length-replicate g.size 255) (ap (λ (u : Bytes). eqb (word u 2) live) blank) (λ b. ap (λ (u : Bytes). eqb (word u 2) retired) blank);
    ups = k.ups;
    bare = ap is_spare (get_or-set_same k.us k.sp (replicate g.size 255) [] k.stands.spare) ∙ blank_spare g;
    holds = (unfinished (quiet_unfinished (sorted (all_entries g 0 k.ps)) k.quiet), tt);
  }

  not_bare : is_spare (get_or k.us k.sp []) ≡ false
  not_bare = go (is_spare (get_or k.us k.sp [])) refl
    where
      go : (b : Bool) → is_spare (get_or k.us k.sp []) ≡ b → b ≡ false
      go true e = absurd (let w : ⊥ = omega (arith, sym k.state ∙ spare_state g (omega (arith, k.stands.shape.right.large)) (get_or k.us k.sp []) (sized_get g k.us k.sp k.stands.sized k.stands.spare) e) in w)
      go false e = refl

  finish_is : finish_move g (the_survey g k.us k.ps k.sp k.stands) ≡ emptied g (k.sp * g.size)
  unfolding finish_move physical emptied after_erase
  finish_is =
      ap (λ (b : Bool). elim b as (λ j. List Step) [ true ↦ [] | false ↦ other (state_at k.us k.sp) ]) not_bare
      ∙ ap other k.state
    where
      r : Physical
      r = physical (k.sp * g.size) (get_or k.us k.sp [])

      other : ℕ → List Step
      other n = cond (eqb n receiving) (move g (name_of k.us k.sp) (home_at (homes_of g 0 k.ps) (name_of k.us k.sp)).unit r) (emptied g (k.sp * g.size))

  erased_safe : Safe g (apply (erase (k.sp * g.size) g.size) s)
  erased_safe = safe_of g Any (λ a b r q. tt) (apply x s) erased_held

  job_is : mount_job g s (survey g s) ≡ erase (k.sp * g.size) g.size ∷ tidying (all_entries g 0 k.ps)
  unfolding erased_held emptied finish mount_job
  job_is =
      ap (mount_job g s) (ap (survey g) k.image ∙ survey_read g k.us k.ps k.sp k.stands)
      ∙ ap (λ (l : List Step). l ++ tidy (survey g (finish l s))) finish_is
      ∙ ap {B = List Step} (λ (l : List Step). x ∷ l) (ap tidy (survey_is g (λ l. Orderly (sorted l) × Any l) (apply x s) erased_held) ∙ tidy_as (the_survey g erased_held.us k.ps k.sp erased_held.stands))

  left_mounts : Sane g s → SoundMounts g s
  unfolding erased_held erased_safe steps_of
  left_mounts sane =
      record {
        steps = suc (length after);
        end = z.0;
        mounts = rest_left x (steps_of after (apply x s)) (sane, by_erase k) (ap (λ (l : List Step). steps_of l s) job_is) (ap (λ (l : List Step). steps_of l (apply x s)) (mount_job_lem g (apply x s) erased_safe)) z.1;
        ended = held_map g (λ l. Tidied (sorted l) × Any l) (λ l. Tidied (sorted l)) (λ l p. p.0) z.0 z.2;
        few = omega (arith, both_few g 1 (length after) (omega (arith, seal_few g k.stands.shape)) (tidy_few g k.us k.ps k.sp k.stands (unfinished (quiet_unfinished (sorted (all_entries g 0 k.ps)) k.quiet))));
      }
    where
      z : (t : Bytes) × Mounts g (LastsOverMounts g) (length (tidying (all_entries g 0 k.ps))) (apply (erase (k.sp * g.size) g.size) s) t × HeldEntries g (λ l. Tidied (sorted l) × Any l) t
      z = tidy_mounts g Any (λ a b r q. tt) (LastsOverMounts g) (λ u h. kept_mendable g u (calmly (safe_of g Any (λ a b r q. tt) u h))) (apply x s) erased_held

-- every covered image that mounting does not refuse
pub covered_mounts : (g : Geometry) (s : Bytes) → LastsOverMounts g s → SoundMounts g s
covered_mounts g s h = go h.1
  where
    go : Covered g s → SoundMounts g s
    go (by_kept k) = kept_sound g s k
    go (by_erase k) = left_mounts g s k h.0

pub covered_lasts : (g : Geometry) → Lasting g (LastsOverMounts g)
covered_lasts g = record { sane = λ u h. h.0; mounts = λ u h. let m = covered_mounts g u h in (m.steps, m.end, m.mounts) }
