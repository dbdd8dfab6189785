-- What the image that a finished move leaves is read as, by what it was read as before.
use Rattle.std.specs.Prelude.{Bool, true, List, [], ◌++◌, ◌∷◌, ◌≢◌, ◌≡◌, ◌+◌, ◌-◌, ◌<◌, ℕ, length}
use Rattle.std.proofs.Common.{◌∙◌, subst₂, zero-add, arith, length-append}
use Rattle.std.proofs.Math.Path.{ap, subst, sym}
use Rattle.rules.specs.Copy.{packed}
use Rattle.rules.specs.Flash.{Bytes, Step, finish}
use Rattle.rules.specs.Jobs.{earlier_of, reclaim}
use Rattle.rules.specs.Settled.{Home, Survey, is_spare, physical, select, survey}
use Rattle.rules.specs.Sound.{home_at}
use Rattle.rules.specs.Unit.{Descriptor, is_allocated, is_committed, is_current_file, is_open, is_pending_file, is_torn, room_for}
use Rattle.rules.specs.declared.Geometry.{Geometry}
use Rattle.theory.specs.Images.Model.{all_entries, LaidHome, Stands, home_of, homes_of, no_laid_home, survey_read, the_survey}
use Rattle.theory.specs.Tidying.Sorted.{OrderlyE, Quiet, sorted}
use Rattle.theory.specs.Tidying.Held.{Safe, survey_is}
use Rattle.theory.specs.Moves.Moving.{get_mid, home_get}
use Rattle.theory.specs.Moves.Packed.{packed_array}
use Rattle.theory.specs.Moves.Gather.{copy_good}
use Rattle.theory.specs.Moves.Alike.{MetByKept}
use Rattle.theory.specs.Moves.Moved.{of_current_file, of_open, of_pending_file}
use Rattle.theory.specs.Moves.Move.{OldErased, Setting, as_held, copy_home, homes_before, the_number}
use Rattle.theory.specs.Moves.Stages.{Start, along_whole, moving}
use Rattle.theory.specs.Moves.MoveJobs.{quiet_after}
use Rattle.theory.specs.Storing.Place.{room_here, room_then}
use Rattle.theory.specs.Mounting.Kept.{home_count, reclaim_is, setting, start}
use Rattle.theory.specs.After.Rebased.{AllFollow, follow_file, rebased}
use Rattle.theory.specs.After.Followed.{get_other, home_up, lists_follow, laid_after, laid_before}

-- where a place comes to lie once home L is moved to the remaining unit
unfoldable pub moved_place : Geometry → Survey → ℕ → ℕ → ℕ
moved_place g v L = rebased (home_at v.homes L).unit.base v.spare.base g.size

-- w is read once home L of v is moved to v's remaining unit
pub record AfterMove (g : Geometry) (v : Survey) (L : ℕ) (w : Survey) : Type 0 where
  -- home L: packed, where the remaining unit was
  pub number : (home_at w.homes L).number ≡ L
  pub base : (home_at w.homes L).unit.base ≡ v.spare.base
  pub room : (home_at w.homes L).room ≡ room_for g (packed g.size (home_at v.homes L).room.array)
  -- the other homes stay
  pub others : (M : ℕ) → M < g.units - 1 → M ≢ L → home_at w.homes M ≡ home_at v.homes M
  -- L's old unit is left over, wholly FF
  pub left : w.spare.base ≡ (home_at v.homes L).unit.base
  pub bare : is_spare w.spare.bytes ≡ true
  -- the entries follow
  pub pending : AllFollow (moved_place g v L) (select is_pending_file w) (select is_pending_file v)
  pub current : AllFollow (moved_place g v L) (select is_current_file w) (select is_current_file v)
  pub open' : AllFollow (moved_place g v L) (select is_open w) (select is_open v)
  pub earlier : (f : ℕ) → AllFollow (moved_place g v L) (earlier_of f w) (earlier_of f v)
  -- none of these is left
  pub torn : select is_torn w ≡ []
  pub allocated : select is_allocated w ≡ []
  pub committed : select is_committed w ≡ []

-- ---- a move that is done
module _ (g : Geometry) (m : Setting g) where
  at_number : (q : LaidHome) → home_at (homes_of g 0 (m.hs ++ q ∷ m.bs)) (the_number g m) ≡ home_of g (the_number g m) q
  at_number q =
      ap (home_at (homes_of g 0 (m.hs ++ q ∷ m.bs))) (zero-add (length m.hs))
      ∙ home_get g 0 (m.hs ++ q ∷ m.bs) (length m.hs) (omega (arith, length-append m.hs (q ∷ m.bs)))
      ∙ ap (home_of g (the_number g m)) (get_mid m.hs m.bs q no_laid_home)

  copy_room : room_here (copy_home g m) ≡ room_then g m.p
  unfolding room_for
  copy_room = λ j. record { array = packed_array g m.shape m.p.array m.p.gap m.p.rest m.good; low = sym (copy_good g m.shape m.p.array m.p.gap m.p.rest m.good).low j }

  module _ (b : Bool) (us : List Bytes) (st : Stands g us (laid_before g m b) m.sp) (s : Bytes) (d : OldErased g m s) where
    abbrev v : Survey
    v = the_survey g us (laid_before g m b) m.sp st

    abbrev w : Survey
    w = the_survey g d.us (laid_after g m) m.p.phys d.stands

    abbrev n : ℕ
    n = the_number g m

    follow : (t : Descriptor → Bool) → MetByKept t → AllFollow (moved_place g v n) (select t w) (select t v)
    unfolding moved_place physical select
    follow t o =
        subst (λ (x : Home). AllFollow (rebased x.unit.base v.spare.base g.size) (select t w) (select t v)) (sym (at_number (home_up g m b)))
        (lists_follow g m b us st s d t o)

    other : (M : ℕ) → M < g.units - 1 → M ≢ n → home_at w.homes M ≡ home_at v.homes M
    other M l e =
        home_get g 0 (laid_after g m) M (omega (arith, d.stands.many, d.stands.units))
        ∙ ap (home_of g (0 + M)) (get_other m.hs m.bs (home_up g m b) (copy_home g m) no_laid_home M (λ (q : M ≡ length m.hs). e (q ∙ sym (zero-add (length m.hs)))))
        ∙ sym (home_get g 0 (laid_before g m b) M (omega (arith, st.many, st.units)))

    after_read : AfterMove g v n w
    unfolding physical earlier_of select
    after_read = record {
      number = ap (λ (x : Home). x.number) (at_number (copy_home g m));
      base = ap (λ (x : Home). x.unit.base) (at_number (copy_home g m));
      room = ap (λ (x : Home). x.room) (at_number (copy_home g m)) ∙ copy_room ∙ ap (λ (x : Home). room_for g (packed g.size x.room.array)) (sym (at_number (home_up g m b)));
      others = other;
      left = ap (λ (x : Home). x.unit.base) (sym (at_number (home_up g m b)));
      bare = d.bare;
      pending = follow is_pending_file of_pending_file;
      current = follow is_current_file of_current_file;
      open' = follow is_open of_open;
      earlier = λ f. follow_file (follow is_pending_file of_pending_file) f;
      torn = (quiet_after g m).torn;
      allocated = (quiet_after g m).allocated;
      committed = (quiet_after g m).committed;
    }

    pub after_done : (x : Bytes) → survey g x ≡ the_survey g us (laid_before g m b) m.sp st → AfterMove g (survey g x) (the_number g m) (survey g s)
    after_done x e =
        subst₂ (λ (y z : Survey). AfterMove g y n z) (sym e) (sym (survey_is g (λ l. l ≡ all_entries g 0 (laid_after g m)) s (as_held g m s d))) after_read

-- ---- a unit reclaimed, in a safe and quiet image
module _ (g : Geometry) (s : Bytes) (h : Safe g s) (quiet : Quiet (sorted (all_entries g 0 h.ps))) (L : ℕ) (l : L < g.units - 1) where
  inside : L < length h.ps
  inside = omega (arith, h.stands.many, h.stands.units)

  abbrev m : Setting g
  m = setting g s h quiet L inside

  steps_are_lem : reclaim g (survey g s) L ≡ moving g (setting g s h quiet L inside)
  steps_are_lem = ap (λ (x : Survey). reclaim g x L) (survey_is g OrderlyE s h) ∙ reclaim_is g s h quiet L inside

  begun : Start g (setting g s h quiet L inside) s
  begun = start g s h quiet L inside

  done : OldErased g (setting g s h quiet L inside) (finish (reclaim g (survey g s) L) s)
  done = subst (λ (j : List Step). OldErased g m (finish j s)) (sym steps_are_lem) (along_whole g m (λ x. Unit {0}) (λ x y. tt) (λ x y. tt) s tt begun).1

  pub after_reclaim : AfterMove g (survey g s) L (survey g (finish (reclaim g (survey g s) L) s))
  after_reclaim =
      subst (λ (n : ℕ). AfterMove g (survey g s) n (survey g (finish (reclaim g (survey g s) L) s))) (home_count g s h quiet L inside)
      (after_done g m m.p.up begun.us begun.stands (finish (reclaim g (survey g s) L) s) done s
      (ap (survey g) begun.image ∙ survey_read g begun.us (homes_before g m) m.sp begun.stands))
