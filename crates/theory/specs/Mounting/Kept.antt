-- What every call but format keeps: the image is safe, or a home is being moved.
use Rattle.std.specs.Prelude.{true, List, [], ◌++◌, ◌∷◌, ◌≡◌, ◌*◌, ◌+◌, ◌<◌, suc, ℕ, drop, get_or, length, replicate, take}
use Rattle.std.proofs.Common.{◌∙◌, subst, zero-add, arith, length-append, length-take-le}
use Rattle.std.proofs.Math.Path.{ap, ap₂, sym}
use Rattle.std.proofs.Math.Seq.{split_at}
use Rattle.rules.specs.Flash.{Bytes}
use Rattle.rules.specs.Jobs.{move, reclaim}
use Rattle.rules.specs.Lists.{all}
use Rattle.rules.specs.Settled.{Home, Physical, physical}
use Rattle.rules.specs.Unit.{room_for}
use Rattle.rules.specs.declared.Geometry.{Geometry}
use Rattle.theory.specs.Base.Facts.{all_back, all_front, all_uncons}
use Rattle.theory.specs.Images.Units.{sized_get}
use Rattle.theory.specs.Images.Model.{all_entries, LaidHome, Stands, home_of, is_up, laid, no_laid_home, the_survey}
use Rattle.theory.specs.Images.Turn.{homes_mid}
use Rattle.theory.specs.Images.Stand.{Mountable}
use Rattle.theory.specs.Tidying.Sorted.{Quiet, quiet_unfinished, sorted, unfinished}
use Rattle.theory.specs.Tidying.Held.{Safe, safe_mountable}
use Rattle.theory.specs.Moves.Moving.{get_mid, home_get}
use Rattle.theory.specs.Images.Blank.{spare_blank}
use Rattle.theory.specs.Moves.Packed.{packed_array}
use Rattle.theory.specs.Moves.Gather.{copy_good}
use Rattle.theory.specs.Moves.Move.{OldErased, Setting, copy_home, the_number, ups_after}
use Rattle.theory.specs.Moves.Stages.{Moving, Start, move_is, moving, moving_mountable}
use Rattle.theory.specs.Moves.MoveJobs.{quiet_after}
use Rattle.theory.specs.Storing.Place.{room_here, room_then}

pub data KeptImage (g : Geometry) (s : Bytes) : Type 0 where
  calmly : Safe g s → KeptImage g s
  while_moving : (m : Setting g) → Moving g m s → KeptImage g s

pub kept_mountable : (g : Geometry) (s : Bytes) → KeptImage g s → Mountable g s
kept_mountable g s (calmly h) = safe_mountable g s h
kept_mountable g s (while_moving m k) = moving_mountable g m s k

-- ---- a home to be moved, in a safe and quiet image
module _ (g : Geometry) (s : Bytes) (h : Safe g s) (quiet : Quiet (sorted (all_entries g 0 h.ps))) (i : ℕ) (l : i < length h.ps) where
  abbrev hs : List LaidHome
  hs = take i h.ps

  abbrev p : LaidHome
  p = get_or h.ps i no_laid_home

  abbrev bs : List LaidHome
  bs = drop (suc i) h.ps

  pub home_split : h.ps ≡ hs ++ p ∷ bs
  home_split = split_at h.ps i no_laid_home l

  pub home_count : 0 + length hs ≡ i
  home_count = zero-add (length hs) ∙ length-take-le i h.ps (omega arith)

  pub home_stands : Stands g h.us (hs ++ p ∷ bs) h.sp
  home_stands = subst (λ (x : List LaidHome). Stands g h.us x h.sp) home_split h.stands

  pub home_ups : all is_up (hs ++ p ∷ bs) ≡ true
  home_ups = ap (all is_up) (sym home_split) ∙ h.ups

  abbrev pub setting : Setting g
  setting = record {
    hs = hs;
    bs = bs;
    p = p;
    sp = h.sp;
    shape = h.stands.shape;
    good = (homes_mid g h.us h.sp 0 hs bs p home_stands.homes).0.good;
    up = (all_uncons is_up p bs (all_back is_up hs (p ∷ bs) home_ups)).0;
    ups = (all_front is_up hs (p ∷ bs) home_ups, (all_uncons is_up p bs (all_back is_up hs (p ∷ bs) home_ups)).1);
    quiet = subst (λ (x : List LaidHome). Quiet (sorted (all_entries g 0 x))) home_split quiet;
    few = omega (arith, h.stands.many, h.stands.units, h.stands.shape.right.few, ap length home_split, length-append hs (p ∷ bs));
  }

  pub start : Start g setting s
  start = record {
    us = h.us;
    image = h.image;
    stands = home_stands;
    left = spare_blank (get_or h.us h.sp []) h.bare ∙ ap (λ (n : ℕ). replicate n 255) (sized_get g h.us h.sp h.stands.sized h.stands.spare);
  }

  pub reclaim_is : reclaim g (the_survey g h.us h.ps h.sp h.stands) i ≡ moving g setting
  unfolding reclaim
  reclaim_is =
      ap (λ (x : Home). move g i x.unit r) (home_get g 0 h.ps i l)
      ∙ ap₂ (λ (a b : ℕ). move g a (home_of g b p).unit r) (sym home_count) (zero-add i ∙ sym home_count)
      ∙ move_is g setting (laid (the_number g setting) p) (get_or h.us h.sp [])
    where
      r : Physical
      r = physical (h.sp * g.size) (get_or h.us h.sp [])

  -- what it leaves
  abbrev pub safe_then : (x : Bytes) → OldErased g setting x → Safe g x
  safe_then x d = record {
    us = d.us;
    ps = hs ++ copy_home g setting ∷ bs;
    sp = p.phys;
    image = d.image;
    stands = d.stands;
    ups = ups_after g setting;
    bare = d.bare;
    holds = unfinished (quiet_unfinished (sorted (all_entries g 0 (hs ++ copy_home g setting ∷ bs))) (quiet_after g setting));
  }

  -- the room of the copy
  pub room_then_lem : room_then g p ≡ room_here (copy_home g setting)
  unfolding room_for
  room_then_lem = λ j. record { array = packed_array g setting.shape p.array p.gap p.rest setting.good; low = (copy_good g setting.shape p.array p.gap p.rest setting.good).low j }

  pub copy_there : get_or (hs ++ copy_home g setting ∷ bs) i no_laid_home ≡ copy_home g setting
  copy_there = ap (λ (n : ℕ). get_or (hs ++ copy_home g setting ∷ bs) n no_laid_home) (sym home_count ∙ zero-add (length hs)) ∙ get_mid hs bs (copy_home g setting) no_laid_home
