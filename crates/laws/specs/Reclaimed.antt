-- The home of a reclaimed unit: it is the copy, and its low is even.
use Rattle.std.specs.Prelude.{◌≡◌, ◌≢◌, List, ℕ, ◌+◌, ◌-◌, ◌*◌, ◌%◌, ◌≤◌, ◌<◌, length, drop, eqb}
use Rattle.std.proofs.Math.Path.{refl, sym, ap}
use Rattle.std.proofs.Common.{◌∙◌, mul-le-mul_right}
use Rattle.std.proofs.Math.Bool.{true, not}
use native.Mathlib.Omega.{arith}
use Rattle.std.proofs.Math.Decide.{ℕ_discrete}
use borrow.Author.Tests.{eqb-false, not-true}
use Rattle.std.proofs.Math.ListN.{get_or}
use Rattle.rules.specs.Lists.{filter}
use Rattle.rules.specs.Flash.{Bytes, word, erased, finish}
use Rattle.rules.specs.Unit.{Descriptor, header_bytes, descriptor_bytes, stands, n, gap, live, lowest, upward, trim, room_for, room_of}
use Rattle.rules.specs.Copy.{packed}
use Rattle.rules.specs.Settled.{Physical, Home, physical, the_first, units_of, is_in, homes_for, is_left, survey, is_spare}
use Rattle.rules.specs.Sound.{home_at, standing}
use Rattle.rules.specs.Jobs.{reclaim, once_reclaimed, place}
use Rattle.laws.specs.Lists.{Every, every_filter, filter_passes, every_all, Has, every_has, filter_has, has_one, has_some}
use Rattle.laws.specs.Units.{RightGeometry, even_size_lem, homes_for_lem}
use Rattle.laws.specs.Homes.{home_of, home_at_lem, home_every, one_home, settled_parts, homes_live}
use Rattle.laws.specs.Rooms.{EvenSector, lowest_trim, lowest_le, packed_even, every_trim}
use Rattle.laws.specs.Frames.{Blank, blank_word, erased_byte}
use Rattle.laws.specs.Copied.{HoldsDescriptors, holds_same}
use Rattle.laws.specs.Readings.{read_even}
use Rattle.laws.specs.Spare.{unit_at, UnitOf, every_unit, has_unit, unit_byte, unit_length, unit_same, first_has, spare_unit, in_is, is_in_lem}
use Rattle.laws.specs.Places.{fits_gap, packed_room, place_once}
use Rattle.laws.specs.Moved.{units_apart, CanReceive, Moved, moved_is}
use Rattle.rules.specs.declared.Geometry.{Geometry}
use Rattle.rules.specs.declared.Rule.{Rule}
use Rattle.rules.specs.declared.Standing.TheVariants.{Settled}

-- ---- the copy
copy_low : (g : Geometry) (r : Bytes) (t : ℕ) (es : List Descriptor) → g.size % 2 ≡ 0 → header_bytes + descriptor_bytes * length (trim es) ≤ lowest g.size es
    → HoldsDescriptors r (t * g.size + header_bytes) (trim es) → Blank r (t * g.size + header_bytes + descriptor_bytes * length (trim es)) (t * g.size + lowest g.size es)
    → Every EvenSector es → (room_of g (unit_at g r t).bytes).low % 2 ≡ 0
unfolding room_of room_for
copy_low g r t es even fit h b v =
    rw (lowest_trim g.size (upward g.size (drop header_bytes u) header_bytes g.size))
    (read_even g.size u header_bytes g.size (lowest g.size es) (trim es)
    (holds_same r u (t * g.size + header_bytes) header_bytes (trim es)
    (λ x y i p q l. unit_byte g r t y (omega (arith, high)) ∙ ap (λ (z : ℕ). get_or r z 0) (omega arith)) h)
    (λ i p q. unit_byte g r t i (omega (arith, high)) ∙ b (t * g.size + i) (omega arith) (omega arith))
    (lowest_trim g.size es) even (every_trim EvenSector es v))
  where
    u : Bytes
    u = (unit_at g r t).bytes

    high : lowest g.size es ≤ g.size
    high = lowest_le g.size es

module _ (g : Geometry) (s : Bytes) (ok : RightGeometry g s) (settled : standing g (survey g s) ≡ Settled)
    (rule : Rule) (L e : ℕ) (long : 0 < e) (placed : place g rule e (survey g s) ≡ once_reclaimed L) where
  abbrev ps : List Physical
  ps = units_of g s

  abbrev from : Physical
  from = (home_of g ps L).unit

  abbrev to : Physical
  to = (survey g s).spare

  abbrev es : List Descriptor
  es = packed g.size (room_of g from.bytes).array

  numbered : L < g.units - 1
  numbered = (place_once g s rule e L placed).0

  -- The packed sectors fit above the array.
  fit : header_bytes + descriptor_bytes * length (trim es) ≤ lowest g.size es
  unfolding stands
  fit =
      let q : e ≤ lowest g.size (trim es) - stands (length (trim es)) =
      unfold packed_room home_of gap n room_for in fits_gap e (packed_room g s L) (place_once g s rule e L placed).1 in
      omega (arith, lowest_trim g.size es)

  -- There is one unit that may be L's home, and L's home is it.
  only : length (homes_for ps L) ≡ 1
  only =
      let q : 0 + L ≡ L = omega arith in
      rw q at (one_home g ps (g.units - 1) 0 L (unfold survey in (settled_parts g (survey g s) settled).one) numbered)

  from_unit : UnitOf g s from
  unfolding home_of
  from_unit =
      every_has (UnitOf g s) (the_first (homes_for ps L)) (homes_for ps L) (homes_for_lem (UnitOf g s) ps L (every_unit g s)) (first_has (homes_for ps L) (omega (arith, only)))

  to_unit : UnitOf g s to
  to_unit = (spare_unit g s (omega (arith, ok.large)) (omega (arith, ok.some))).0

  apart : from.base ≢ to.base
  unfolding survey is_left
  apart q =
      let z : 0 + L ≡ L = omega arith in
      let h = every_all (λ (x : Home). not (eqb x.unit.base to.base)) (survey g s).homes (spare_unit g s (omega (arith, ok.large)) (omega (arith, ok.some))).1 in
      let k = home_every g ps (λ (x : Home). not (eqb x.unit.base to.base) ≡ true) (g.units - 1) 0 L h numbered in
      eqb-false from.base to.base (not-true (eqb from.base to.base) (rw z at k)) q

  f : ℕ
  f = from_unit.index

  t : ℕ
  t = to_unit.index

  inside : (j : ℕ) → j < g.units → j * g.size + g.size ≤ length s
  inside j h = omega (arith, mul-le-mul_right g.size h, ok.whole)

  from_base : from.base ≡ f * g.size
  unfolding f
  from_base = ap (λ (p : Physical). p.base) from_unit.exact ∙ (unfold unit_at physical in refl)

  to_base : to.base ≡ t * g.size
  unfolding t
  to_base = ap (λ (p : Physical). p.base) to_unit.exact ∙ (unfold unit_at physical in refl)

  f≢t : f ≢ t
  f≢t q = apart (from_base ∙ ap (λ (j : ℕ). j * g.size) q ∙ sym to_base)

  -- The remaining unit is erased.
  blank_to : Blank s (t * g.size) (t * g.size + g.size)
  unfolding t
  blank_to i p q =
      let x : erased (unit_at g s to_unit.index).bytes ≡ true = unfold is_spare in rw to_unit.exact at (settled_parts g (survey g s) settled).spare in
      let z : i ≡ t * g.size + (i - t * g.size) = omega arith in
      ap (λ (k : ℕ). get_or s k 0) z
      ∙ sym (unit_byte g s t (i - t * g.size) (omega arith))
      ∙ erased_byte (unit_at g s t).bytes x (i - t * g.size) (omega (arith, unit_length g s t (inside t to_unit.below)))

  -- So it can take the copy.
  spare_to : CanReceive g s (t * g.size)
  spare_to = (
    blank_word s (t * g.size) (t * g.size + g.size) blank_to (t * g.size) (omega arith) (omega (arith, ok.large)),
    blank_word s (t * g.size) (t * g.size + g.size) blank_to (t * g.size + 2) (omega arith) (omega (arith, ok.large)),
    λ i p q. blank_to i (omega arith) q,
  )

  r : Bytes
  r = finish (reclaim g (survey g s) L) s

  done : Moved g L f t (trim es) (lowest g.size es) s r
  unfolding r reclaim f t
  done =
      rw (home_at_lem g s L numbered)
      (moved_is g s L f t from to from_base to_base f≢t ok.large ok.small (omega (arith, numbered, ok.few)) (inside f from_unit.below) (inside t to_unit.below) spare_to fit)

  -- ---- L's home afterwards
  few : List Physical
  few = filter (is_in L live) (units_of g r)

  has_copy : Has (unit_at g r t) few
  unfolding few t
  has_copy =
      filter_has (is_in L live) (unit_at g r t) (units_of g r)
      (is_in_lem g r t L live (omega (arith, ok.large)) done.logical done.state) (has_unit g r t to_unit.below)

  found : Has (the_first few) few
  found = first_has few (has_some (unit_at g r t) few has_copy)

  home : UnitOf g r (the_first few)
  unfolding few
  home = every_has (UnitOf g r) (the_first few) few (every_filter (UnitOf g r) (is_in L live) (units_of g r) (every_unit g r)) found

  j : ℕ
  j = home.index

  home_in_lem : is_in L live (unit_at g r j) ≡ true
  unfolding few j
  home_in_lem = rw home.exact at (every_has (λ (p : Physical). is_in L live p ≡ true) (the_first few) few (filter_passes (is_in L live) (units_of g r)) found)

  -- It is not the old home, which has no number.
  j≢f : j ≢ f
  j≢f q =
      let w : word r (f * g.size) ≡ 0xFFFF = done.gone in
      let v : word r (f * g.size) ≡ L = rw q at (in_is g r j L live (omega (arith, ok.large)) home_in_lem) in
      omega (arith, w, v, numbered, ok.few)

  -- Nor any other unit, for those are as they were, where only the old home was live with L's number.
  j≡t : j ≡ t
  j≡t = go (ℕ_discrete j t)
    where
      go : Dec (j ≡ t) → j ≡ t
      go (yes q) = q
      go (no m) = absurd (units_apart g.size j f (j * g.size) (f * g.size) j≢f (omega arith) (omega (arith, ok.large)) (omega arith) (omega (arith, ok.large)) (sym there))
        where
          same : unit_at g r j ≡ unit_at g s j
          same = unfold j in unit_same g s r j (inside j home.below) done.long (done.others j j≢f m)

          lived : Has (unit_at g s j) (filter (is_in L live) ps)
          lived = unfold j in filter_has (is_in L live) (unit_at g s j) ps (rw same at home_in_lem) (has_unit g s j home.below)

          kept : homes_for ps L ≡ filter (is_in L live) ps
          kept = homes_live ps L (unit_at g s j) lived

          both_one : from ≡ unit_at g s j
          both_one = unfold home_of in has_one (the_first (homes_for ps L)) (unit_at g s j) (homes_for ps L) only (first_has (homes_for ps L) (omega (arith, only))) (rw kept lived)

          there : f * g.size ≡ j * g.size
          there = sym from_base ∙ ap (λ (p : Physical). p.base) both_one ∙ (unfold unit_at physical in refl)

  -- After reclaiming, L's home is the copy.
  copy_home_lem : (home_of g (units_of g r) L).unit ≡ unit_at g r t
  unfolding home_of few j
  copy_home_lem = ap the_first (homes_live (units_of g r) L (unit_at g r t) has_copy) ∙ home.exact ∙ ap (unit_at g r) j≡t

  -- Its low is even.
  pub reclaimed_low : (home_at (survey g (finish (reclaim g (survey g s) L) s)).homes L).room.low % 2 ≡ 0
  unfolding r
  reclaimed_low =
      let q : (home_of g (units_of g r) L).room ≡ room_of g (home_of g (units_of g r) L).unit.bytes = unfold home_of in refl in
      rw (home_at_lem g r L numbered, q, copy_home_lem)
      (copy_low g r t es (even_size_lem ok) fit done.holds done.clear (packed_even g.size (room_of g from.bytes).array (even_size_lem ok)))
