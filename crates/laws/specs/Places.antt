-- What a place tells: the unit that is reclaimed has room for the sector once it is packed.
use Rattle.std.specs.Prelude.{◌≡◌, Bool, cond, ◌&&◌, ℕ, ◌+◌, ◌-◌, ◌≤◌, ◌<◌, leb, ltb}
use Rattle.std.proofs.Math.Path.{refl}
use Rattle.std.proofs.Common.{sym, leb-true}
use Rattle.std.proofs.Math.Bool.{true, false}
use mathlib.Core.List.{List, [], ◌∷◌}
use Rattle.std.proofs.Math.Option.{Option, none, some}
use native.Mathlib.Omega.{arith}
use Rattle.rules.specs.Flash.{Bytes}
use Rattle.rules.specs.Unit.{Room, room_for, n, gap, descriptor_bytes}
use Rattle.rules.specs.Copy.{packed}
use Rattle.rules.specs.Settled.{Home, Survey, units_of, survey}
use Rattle.rules.specs.Jobs.{vacant, fits, fitting, key, lesser, least, reclaimed, greater, greatest, to_reclaim, Place, as_it_stands, once_reclaimed, no_room, chosen, place}
use Rattle.laws.specs.Tests.{and_inv, one, clash}
use Rattle.laws.specs.Lists.{Every, every_filter, filter_passes}
use Rattle.laws.specs.Homes.{home_of, every_home}
use Rattle.rules.specs.declared.Geometry.{Geometry}
use Rattle.rules.specs.declared.Rule.{Rule}

-- A sector that fits is at most as long as the gap.
pub fits_gap : (e : ℕ) (r : Room) → fits e r ≡ true → e ≤ gap r
unfolding fits
fits_gap e r h =
    one (ltb (vacant r.array) (n r) && leb e (gap r)) (leb (e + descriptor_bytes) (gap r)) h
    (λ k. leb-true e (gap r) (and_inv (ltb (vacant r.array) (n r)) (leb e (gap r)) k).1)
    (λ k. let l : e + descriptor_bytes ≤ gap r = leb-true (e + descriptor_bytes) (gap r) k in omega arith)

-- The greatest of some homes is one of them.
greatest_holds : (P : Home → Type 0) (hs : List Home) → Every P hs → (k : Home) → greatest hs ≡ some k → P k
unfolding greatest
greatest_holds P [] h k e = clash (cc)
greatest_holds P (x ∷ hs) h k e =
    let q : greater x (greatest hs) ≡ k = cc in
    rw q at (go (greatest hs) (greatest_holds P hs h.1))
  where
    go : (o : Option Home) → ((j : Home) → o ≡ some j → P j) → P (greater x o)
    go none f = unfold greater in h.0
    go (some j) f = unfold greater in pick (ltb (gap x.room) (gap j.room))
      where
        pick : (b : Bool) → P (cond b j x)
        pick true = f j refl
        pick false = h.0

-- One proof of fitting for both rules: what holds of every home holds of the one that a rule takes.
pub least_holds : (P : Home → Type 0) (q : Rule) (hs : List Home) → Every P hs → (k : Home) → least q hs ≡ some k → P k
unfolding least
least_holds P q [] h k e = clash (cc)
least_holds P q (x ∷ hs) h k e =
    let w : lesser q x (least q hs) ≡ k = cc in
    rw w at (go (least q hs) (least_holds P q hs h.1))
  where
    go : (o : Option Home) → ((j : Home) → o ≡ some j → P j) → P (lesser q x o)
    go none f = unfold lesser in h.0
    go (some j) f = unfold lesser in pick (ltb (key q j) (key q x))
      where
        pick : (b : Bool) → P (cond b j x)
        pick true = f j refl
        pick false = h.0

-- The unit that a rule takes is one of the homes, and the sector fits there.
pub least_fits : (q : Rule) (e : ℕ) (hs : List Home) (k : Home) → least q (fitting e hs) ≡ some k → fits e k.room ≡ true
unfolding fitting
least_fits q e hs k = least_holds (λ (h : Home). fits e h.room ≡ true) q (fitting e hs) (filter_passes _ hs) k

-- The unit to reclaim is one of the reclaimed homes, and the sector fits there.
pub to_reclaim_fits : (P : Home → Type 0) (g : Geometry) (e : ℕ) (hs : List Home) → Every P (reclaimed g hs) → (k : Home) → to_reclaim g e hs ≡ some k → P k × (fits e k.room ≡ true)
unfolding to_reclaim fitting
to_reclaim_fits P g e hs h k q =
    (greatest_holds P (fitting e (reclaimed g hs)) (every_filter P _ (reclaimed g hs) h) k q, greatest_holds (λ (x : Home). fits e x.room ≡ true) (fitting e (reclaimed g hs)) (filter_passes _ (reclaimed g hs)) k q)

-- On the same image NO ROOM is the same under both rules.
same_chosen : (q r : Rule) (hs : List Home) (o : Option Home) (p : Place) → ((L : ℕ) → p ≡ as_it_stands L → ⊥) → chosen (least q hs) o ≡ p → chosen (least r hs) o ≡ p
unfolding least chosen
same_chosen q r [] o p f e = e
same_chosen q r (h ∷ hs) o p f e = absurd (f (lesser q h (least q hs)).number (sym e))

pub same_no_room : (g : Geometry) (q r : Rule) (e : ℕ) (v : Survey) → place g q e v ≡ no_room → place g r e v ≡ no_room
unfolding place
same_no_room g q r e v = same_chosen q r (fitting e v.homes) _ no_room (λ L x. clash_room x)
  where
    clash_room : {L : ℕ} → no_room ≡ as_it_stands L → ⊥
    clash_room x = clash (cc)

-- L's home as it would be after reclaiming.
unfoldable pub packed_room : Geometry → Bytes → ℕ → Room
packed_room g s L = room_for g (packed g.size (home_of g (units_of g s) L).room.array)

module _ (g : Geometry) (s : Bytes) where
  Numbered : Home → Type 0
  Numbered h = (h.number < g.units - 1) × (h.room ≡ packed_room g s h.number)

  every_reclaimed : (P : Home → Type 0) (hs : List Home)
      → Every (λ (h : Home). P (record { number = h.number; unit = h.unit; room = room_for g (packed g.size h.room.array) })) hs → Every P (reclaimed g hs)
  unfolding reclaimed
  every_reclaimed P [] h = tt
  every_reclaimed P (x ∷ hs) h = (h.0, every_reclaimed P hs h.1)

  numbered : Every Numbered (reclaimed g (survey g s).homes)
  unfolding survey Numbered packed_room home_of
  numbered = every_reclaimed Numbered (survey g s).homes (every_home g (units_of g s) _ (g.units - 1) 0 (λ i a b. (omega arith, refl)))

  -- If the place is in a unit once it is reclaimed, that unit has a number, and the sector then fits.
  pub place_once : (q : Rule) (e L : ℕ) → place g q e (survey g s) ≡ once_reclaimed L → (L < g.units - 1) × (fits e (packed_room g s L) ≡ true)
  unfolding place Numbered
  place_once q e L h = go (least q (fitting e (survey g s).homes)) (to_reclaim g e (survey g s).homes) refl h
    where
      go : (a b : Option Home) → to_reclaim g e (survey g s).homes ≡ b → chosen a b ≡ once_reclaimed L → (L < g.units - 1) × (fits e (packed_room g s L) ≡ true)
      go (some x) b q p = unfold chosen in clash (cc)
      go none none q p = unfold chosen in clash (cc)
      go none (some k) q p =
          let l : k.number ≡ L = unfold chosen in cc in
          let z = to_reclaim_fits Numbered g e (survey g s).homes numbered k q in
          let m = z.0 in
          (rw l at m.0, rw (m.1, l) at z.1)
