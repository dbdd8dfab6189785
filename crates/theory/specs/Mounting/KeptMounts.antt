-- A moving image is not settled; what is kept is mounted to a settled image.
use Rattle.std.specs.Prelude.{true, List, [], ◌++◌, ◌∷◌, ◌≡◌, ◌≤◌, ℕ, get_or, length}
use Rattle.std.proofs.Common.{◌∙◌, ap, sym, arith}
use Rattle.rules.specs.Flash.{Bytes, is_geometry, word}
use Rattle.rules.specs.Histories.{mount_bound}
use Rattle.rules.specs.Lists.{all}
use Rattle.rules.specs.Settled.{Entry, is_spare, survey}
use Rattle.rules.specs.Sound.{standing}
use Rattle.rules.specs.declared.Geometry.{Geometry}
use Rattle.rules.specs.declared.Standing.TheVariants.{Settled}
use Rattle.laws.specs.Words.{two_bytes}
use Rattle.theory.specs.Base.Facts.{and_r, true_false}
use Rattle.theory.specs.Images.Model.{all_entries, is_up, stands_legal}
use Rattle.theory.specs.Images.Stand.{is_settled_lem}
use Rattle.theory.specs.Tidying.Sorted.{Orderly, OrderlyE, sorted, tidying}
use Rattle.theory.specs.Tidying.Tidy.{Tidied}
use Rattle.theory.specs.Tidying.Held.{HeldEntries, held_map, safe_mountable}
use Rattle.theory.specs.Mounting.Mounts.{Mounts, Sane}
use Rattle.theory.specs.Mounting.Remounts.{Lasting}
use Rattle.theory.specs.Tidying.Bound.{both_few, tidy_few}
use Rattle.theory.specs.Mounting.TidyMounts.{safe_of, tidy_mounts}
use Rattle.theory.specs.Moves.Move.{Setting, copy_home, homes_before, retired_home, the_number}
use Rattle.theory.specs.Moves.Stages.{Moving, moving_mountable, once_live, once_retired, while_filling}
use Rattle.theory.specs.Moves.MoveJobs.{not_spare}
use Rattle.theory.specs.Mounting.MoveMounts.{MountsTo, moving_mounts}
use Rattle.theory.specs.Mounting.Kept.{KeptImage, calmly, while_moving}

-- ---- a moving image is not settled
pub moving_unsettled : (g : Geometry) (m : Setting g) (s : Bytes) → Moving g m s → standing g (survey g s) ≡ Settled → ⊥
unfolding word
moving_unsettled g m s (while_filling r k) e =
    true_false (is_spare (get_or k.us m.sp []))
    (and_r (all is_up (homes_before g m)) (is_spare (get_or k.us m.sp [])) (is_settled_lem g k.us (homes_before g m) m.sp k.stands (ap (λ (x : Bytes). standing g (survey g x)) (sym k.image) ∙ e)).0)
    (not_spare g m k.us m.p m.sp k.stands (ap (λ (x : Bytes). word x 0) k.left ∙ k.begun.name))
moving_unsettled g m s (once_retired k) e =
    true_false (is_spare (get_or k.us m.sp []))
    (and_r (all is_up (m.hs ++ retired_home g m ∷ m.bs)) (is_spare (get_or k.us m.sp [])) (is_settled_lem g k.us (m.hs ++ retired_home g m ∷ m.bs) m.sp k.stands (ap (λ (x : Bytes). standing g (survey g x)) (sym k.image) ∙ e)).0)
    (not_spare g m k.us (retired_home g m) m.sp k.stands (ap (λ (x : Bytes). word x 0) k.left ∙ two_bytes (the_number g m)))
moving_unsettled g m s (once_live k) e =
    true_false (is_spare (get_or k.us m.p.phys []))
    (and_r (all is_up (m.hs ++ copy_home g m ∷ m.bs)) (is_spare (get_or k.us m.p.phys [])) (is_settled_lem g k.us (m.hs ++ copy_home g m ∷ m.bs) m.p.phys k.stands (ap (λ (x : Bytes). standing g (survey g x)) (sym k.image) ∙ e)).0)
    (not_spare g m k.us (copy_home g m) m.p.phys k.stands (ap (λ (x : Bytes). word x 0) k.left ∙ two_bytes (the_number g m)))

pub kept_sane : (g : Geometry) (s : Bytes) → KeptImage g s → Sane g s
kept_sane g s (calmly h) = (ap (λ (x : Bytes). is_geometry g (length x)) h.image ∙ stands_legal g h.us h.ps h.sp h.stands, safe_mountable g s h)
kept_sane g s (while_moving m k) = (legal k, moving_mountable g m s k)
  where
    legal : Moving g m s → is_geometry g (length s) ≡ true
    legal (while_filling r k) = ap (λ (x : Bytes). is_geometry g (length x)) k.image ∙ stands_legal g k.us (homes_before g m) m.sp k.stands
    legal (once_retired k) = ap (λ (x : Bytes). is_geometry g (length x)) k.image ∙ stands_legal g k.us (m.hs ++ retired_home g m ∷ m.bs) m.sp k.stands
    legal (once_live k) = ap (λ (x : Bytes). is_geometry g (length x)) k.image ∙ stands_legal g k.us (m.hs ++ copy_home g m ∷ m.bs) m.p.phys k.stands

-- ---- mounting what is kept
pub record KeptMounts (g : Geometry) (s : Bytes) : Type 0 where
  pub steps : ℕ
  pub end : Bytes
  pub mounts : Mounts g (KeptImage g) steps s end
  pub ended : HeldEntries g (λ l. Tidied (sorted l)) end
  pub few : steps ≤ mount_bound g

abbrev Any : List Entry → Type 0
Any l = Unit {0}

pub kept_mounts : (g : Geometry) (s : Bytes) → KeptImage g s → KeptMounts g s
kept_mounts g s (calmly h) =
    record { steps = length (tidying (all_entries g 0 h.ps)); end = z.0; mounts = z.1; ended = held_map g (λ l. Tidied (sorted l) × Any l) (λ l. Tidied (sorted l)) (λ l p. p.0) z.0 z.2; few = omega (arith, both_few g 0 (length (tidying (all_entries g 0 h.ps))) (omega arith) (tidy_few g h.us h.ps h.sp h.stands h.holds)) }
  where
    h' : HeldEntries g (λ l. Orderly (sorted l) × Any l) s
    h' = held_map g OrderlyE (λ l. Orderly (sorted l) × Any l) (λ l p. (p, tt)) s h

    z : (t : Bytes) × Mounts g (KeptImage g) (length (tidying (all_entries g 0 h.ps))) s t × HeldEntries g (λ l. Tidied (sorted l) × Any l) t
    z = tidy_mounts g Any (λ a b r q. tt) (KeptImage g) (λ u k. calmly (safe_of g Any (λ a b r q. tt) u k)) s h'
kept_mounts g s (while_moving m k) =
    record { steps = r.steps; end = r.end; mounts = r.mounts; ended = held_map g (λ l. Tidied (sorted l) × Any l) (λ l. Tidied (sorted l)) (λ l p. p.0) r.end r.ended; few = r.few }
  where
    r : MountsTo g m Any (λ a b r q. tt) tt (KeptImage g) (λ u k. calmly (safe_of g Any (λ a b r q. tt) u k)) (λ u k. while_moving m k) s
    r = moving_mounts g m Any (λ a b r q. tt) tt (KeptImage g) (λ u k. calmly (safe_of g Any (λ a b r q. tt) u k)) (λ u k. while_moving m k) s k

pub kept_lasts : (g : Geometry) → Lasting g (KeptImage g)
kept_lasts g = record { sane = kept_sane g; mounts = λ u k. let m = kept_mounts g u k in (m.steps, m.end, m.mounts) }
