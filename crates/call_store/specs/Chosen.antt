-- The unit that a place names can be reclaimed.
use Rattle.std.proofs.Math.Bool.{true, not}
use Rattle.std.specs.Prelude.{List, ◌≡◌, refl, ℕ, ◌-◌, ◌*◌, ◌<◌, eqb, Some}
use Rattle.std.proofs.Common.{◌∙◌, arith}
use Rattle.std.proofs.Math.Path.{ap, sym}
use Rattle.std.proofs.Math.Nat.{zero-add}
use borrow.Author.Tests.{eqb-false, not-true}
use Rattle.std.proofs.Math.ListN.{get_or}
use Rattle.rules.specs.Flash.{Bytes}
use Rattle.rules.specs.Unit.{is_home, room_for}
use Rattle.rules.specs.Copy.{is_copyable, packed}
use Rattle.rules.specs.Settled.{Home, Physical, is_left, physical, survey, units_of}
use Rattle.rules.specs.Jobs
use Rattle.rules.specs.Jobs.{fits, once_reclaimed}
use Rattle.laws.specs.Lists.{every_all}
use Rattle.laws.specs.Homes.{home_every, home_of, settled_parts}
use Rattle.laws.specs.Homes
use Rattle.laws.specs.Places.{packed_room, place_once}
use Rattle.laws.specs.Spare.{spare_unit}
use Rattle.laws.specs.Words.{AreBytes}
use Rattle.rules.specs.declared.Geometry.{Geometry}
use Rattle.rules.specs.declared.Rule.{Rule}
use Rattle.laws.specs.Units.{RightGeometry, right_geometry}
use Rattle.copy.specs.Bridge.{home_copyable}
use Rattle.judge.specs.Rounds.{unit_whole}
use Rattle.step_move.specs.Copying.{part}
use Rattle.place.specs.Homes.{home_in, homes_at, unit_in}
use Rattle.place.specs.Search.{as_place, place_in, room_once}
use Rattle.place.specs.declared.Place.TheVariants as found
use Rattle.call_look.specs.Known.{Known, Remaining}
use Rattle.call_store.specs.Stores.{base_of, room_then, Reclaims}
use Rattle.call_store.specs.Laws.{home_is_lem, place_found}

module _ (g : Geometry) (s : Bytes) (home : List ℕ) (left : ℕ) (known : Known g s home) (remaining : Remaining g s left) (rule : Rule) (e L : ℕ) (q : Some (found.OnceReclaimed L) ≡ place_in g rule e (homes_at g s home (g.units - 1) 0)) where
  placed : Jobs.place g rule e (survey g s) ≡ once_reclaimed L
  unfolding as_place
  placed = place_found g s home known.homed rule e (Some (found.OnceReclaimed L)) q

  below : L < g.units - 1
  below = (place_once g s rule e L placed).0

  o : RightGeometry g s
  o = right_geometry g s known.homed.right

  -- the home by the reader's list, and by the table
  one : home_of g (units_of g s) L ≡ home_in g s home L
  one = sym (Homes.home_at_lem g s L below) ∙ home_is_lem g s home known.homed L below

  apart : get_or home L 0 ≡ left → ⊥
  unfolding survey is_left
  apart z =
      let h = every_all (λ (x : Home). not (eqb x.unit.base (survey g s).spare.base)) (survey g s).homes (spare_unit g s (omega (arith, o.large)) (omega (arith, o.some))).1 in
      let k = home_every g (units_of g s) (λ (x : Home). not (eqb x.unit.base (survey g s).spare.base) ≡ true) (g.units - 1) 0 L h below in
      let m : not (eqb (home_of g (units_of g s) L).unit.base (survey g s).spare.base) ≡ true = rw zero-add at k in
      let a : (home_of g (units_of g s) L).unit.base ≡ get_or home L 0 * g.size = ap (λ (x : Home). x.unit.base) one ∙ (unfold home_in physical in refl) in
      let b : (survey g s).spare.base ≡ left * g.size = ap (λ (x : Physical). x.base) remaining.spare ∙ (unfold physical in refl) in
      eqb-false (home_of g (units_of g s) L).unit.base (survey g s).spare.base (not-true (eqb (home_of g (units_of g s) L).unit.base (survey g s).spare.base) m) (a ∙ ap (λ (x : ℕ). x * g.size) z ∙ sym b)

  right : is_home g (home_in g s home L).unit.bytes (home_in g s home L).room ≡ true
  unfolding survey
  right =
      let h = every_all (λ (x : Home). is_home g x.unit.bytes x.room) (survey g s).homes (settled_parts g (survey g s) known.settled).homes in
      let k = home_every g (units_of g s) (λ (x : Home). is_home g x.unit.bytes x.room ≡ true) (g.units - 1) 0 L h below in
      let m : is_home g (home_of g (units_of g s) L).unit.bytes (home_of g (units_of g s) L).room ≡ true = rw zero-add at k in
      ap (λ (x : Home). is_home g x.unit.bytes x.room) (sym one) ∙ m

  copyable : AreBytes s → is_copyable g (part s (base_of g home L) g.size) ≡ true
  unfolding home_in unit_in physical
  copyable small = home_copyable g (part s (base_of g home L) g.size) (unit_whole g s o small (get_or home L 0) (known.homed.below L below)) right

  fit : fits e (room_then g s home L) ≡ true
  unfolding room_then room_once packed_room
  fit = ap (λ (x : Home). fits e (room_for g (packed g.size x.room.array))) (sym one) ∙ (place_once g s rule e L placed).1

  pub reclaims : AreBytes s → Reclaims g s home left e L
  reclaims small = record { right = known.homed.right; table = known.homed.below; below = below; last = remaining.last; apart = apart; copyable = copyable small; room = fit }
