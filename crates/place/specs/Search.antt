-- Place as the code searches for it, and that it is the reader's.
use Rattle.std.specs.Prelude.{◌≡◌, refl, cond, ◌&&◌, ◌||◌, ℕ, ◌+◌, ◌-◌, leb, ltb, get_or, Option, Some, None}
use Rattle.std.specs.Option.{option_map}
use Rattle.std.proofs.Math.Option as math
use Rattle.std.proofs.Math.Option.{none, some}
use mathlib.Core.List.{List}
use Rattle.rules.specs.Unit.{Descriptor, Room, blank, is_empty, room_for, gap, stands, descriptor_bytes}
use Rattle.rules.specs.Copy.{packed}
use Rattle.rules.specs.Settled.{Home, Survey}
use Rattle.rules.specs.Jobs
use Rattle.rules.specs.Jobs.{vacant, fits, fitting, least, to_reclaim, as_it_stands, once_reclaimed, no_room, chosen}
use Rattle.rules.specs.declared.Geometry.{Geometry}
use Rattle.rules.specs.declared.Handle.{Handle}
use Rattle.rules.specs.declared.Rule.{Rule}
use Rattle.unit.specs.declared.Room as the_room_lem
use Rattle.place.specs.declared.Place.{Place}
use Rattle.place.specs.declared.Place.TheVariants.{AsItStands, OnceReclaimed}
use Rattle.place.specs.declared.Fit.{Fit}

-- the lowest vacant position of a home
unfoldable pub handle_in : Home → Handle
handle_in h = record { unit = h.number; position = vacant h.room.array }

-- a home as the code notes one that fits
unfoldable pub fit_of : Home → Fit
fit_of h = record { at = handle_in h; gap = gap h.room }

-- so noted, if a sector of size e fits
unfoldable pub fit_in : ℕ → Home → Option Fit
fit_in e h = cond (fits e h.room) (Some (fit_of h)) None

-- one of some homes, so noted
unfoldable pub as_fit : math.Option Home → Option Fit
as_fit none = None
as_fit (some h) = Some (fit_of h)

-- a unit whose room the code has read and whose lowest vacant position is v, so noted if a sector of size e fits
abbrev pub told : ℕ → the_room_lem.Room → ℕ → ℕ → Option Fit
told number r v e =
    let x = r.low - stands r.n in
    cond ((ltb v r.n && leb e x) || leb (e + descriptor_bytes) x) (Some (record { at = record { unit = number; position = v }; gap = x })) None

-- so noted at position p of the unit, whose first n descriptors are given, if that is an empty one or n
unfoldable pub told_at : ℕ → the_room_lem.Room → List Descriptor → ℕ → ℕ → Option Fit
told_at number r ds p e = cond (is_empty (get_or ds p blank)) (told number r p e) None

-- the room of a unit that is reclaimed
unfoldable pub room_once : Geometry → Room → Room
room_once g r = room_for g (packed g.size r.array)

-- a home as it would be after reclaiming
unfoldable pub once : Geometry → Home → Home
once g h = record { number = h.number; unit = h.unit; room = room_once g h.room }

-- the first found as it stands, else the one to reclaim
unfoldable pub place_by : math.Option Home → math.Option Home → Option Place
place_by (some h) k = Some (AsItStands (handle_in h))
place_by none (some k) = Some (OnceReclaimed k.number)
place_by none none = None

unfoldable pub place_in : Geometry → Rule → ℕ → List Home → Option Place
place_in g q e hs = place_by (least q (fitting e hs)) (to_reclaim g e hs)

-- ---- the reader's

unfoldable pub as_place : Option Place → Jobs.Place
as_place (Some (AsItStands h)) = as_it_stands h.unit
as_place (Some (OnceReclaimed L)) = once_reclaimed L
as_place None = no_room

pub place_is : (g : Geometry) (q : Rule) (e : ℕ) (v : Survey) → as_place (place_in g q e v.homes) ≡ Jobs.place g q e v
unfolding place_in Jobs.place as_place place_by chosen handle_in
place_is g q e v = go (least q (fitting e v.homes)) (to_reclaim g e v.homes)
  where
    go : (a b : math.Option Home) → as_place (place_by a b) ≡ chosen a b
    go (some h) b = refl
    go none (some k) = refl
    go none none = refl

-- ---- from what is found to the place
module _ (g : Geometry) (rule : Rule) (e : ℕ) (hs : List Home) where
  pub place_fit : (f : Fit) → Some f ≡ as_fit (least rule (fitting e hs)) → Some (AsItStands f.at) ≡ place_in g rule e hs
  unfolding place_in as_fit place_by fit_of
  place_fit f q = go (least rule (fitting e hs)) (to_reclaim g e hs) q
    where
      go : (a b : math.Option Home) → Some f ≡ as_fit a → Some (AsItStands f.at) ≡ place_by a b
      go (some h) b p = let t : f ≡ fit_of h = cc in rw t
      go none b p = cc

  pub place_once : (o : Option Fit) → None ≡ as_fit (least rule (fitting e hs)) → o ≡ as_fit (to_reclaim g e hs) → option_map (λ (f : Fit). OnceReclaimed f.at.unit) o ≡ place_in g rule e hs
  unfolding place_in as_fit place_by fit_of handle_in
  place_once o q r = rw r (go (least rule (fitting e hs)) (to_reclaim g e hs) q)
    where
      go : (a b : math.Option Home) → None ≡ as_fit a → option_map (λ (f : Fit). OnceReclaimed f.at.unit) (as_fit b) ≡ place_by a b
      go (some h) b p = cc
      go none (some k) p = refl
      go none none p = refl
