-- What a place tells of the unit that it is in.
use Rattle.std.specs.Prelude.{◌≡◌, true, get_or, Some}
use Rattle.std.proofs.Math.Path.{refl, ap}
use Rattle.std.proofs.Common.{sym, ◌∙◌}
use mathlib.Core.List.{List}
use Rattle.std.proofs.Math.Option as math
use Rattle.std.proofs.Math.Option.{none, some}
use Prim.Native.Nat.{ℕ, zero, suc, ◌+◌, ◌≤◌, ◌<◌}
use native.Mathlib.Omega.{arith}
use Rattle.rules.specs.Flash.{Bytes}
use Rattle.rules.specs.Settled.{Home}
use Rattle.rules.specs.Sound.{no_home, home_at}
use Rattle.rules.specs.Jobs.{vacant, fits, fitting, least, to_reclaim}
use Rattle.laws.specs.Lists.{Every, every_filter}
use Rattle.laws.specs.Places.{least_holds, least_fits}
use Rattle.rules.specs.declared.Geometry.{Geometry}
use Rattle.rules.specs.declared.Handle.{Handle}
use Rattle.rules.specs.declared.Rule.{Rule}
use Rattle.place.specs.declared.Place.TheVariants.{AsItStands}
use Rattle.place.specs.Homes.{home_in, homes_at}
use Rattle.place.specs.Search.{handle_in, place_by, place_in}

-- the handle is the vacant position of a unit with a number below k, in which a sector of size e fits
pub record Vacant (g : Geometry) (s : Bytes) (table : List ℕ) (e k : ℕ) (h : Handle) : Type 0 where
  pub below : h.unit < k
  pub position : h.position ≡ vacant (home_in g s table h.unit).room.array
  pub room : fits e (home_in g s table h.unit).room ≡ true

module _ (g : Geometry) (s : Bytes) (table : List ℕ) where
  home_get : (k L i : ℕ) → i < k → get_or (homes_at g s table k L) i no_home ≡ home_in g s table (L + i)
  unfolding homes_at
  home_get zero L i h = absurd (omega arith)
  home_get (suc k) L zero h =
      let e : L ≡ L + 0 = omega arith in
      ap (home_in g s table) e
  home_get (suc k) L (suc i) h =
      let e : suc L + i ≡ L + suc i = omega arith in
      home_get k (suc L) i (omega arith) ∙ ap (home_in g s table) e

  pub home_at_lem : (k L : ℕ) → L < k → home_at (homes_at g s table k 0) L ≡ home_in g s table L
  unfolding home_at
  home_at_lem k L h =
      let e : 0 + L ≡ L = omega arith in
      home_get k 0 L h ∙ ap (home_in g s table) e

  -- each home is the one of its number
  record Numbered (m : ℕ) (x : Home) : Type 0 where
    below : x.number < m
    is : x ≡ home_in g s table x.number

  numbered : (k L m : ℕ) → L + k ≤ m → Every (Numbered m) (homes_at g s table k L)
  unfolding homes_at home_in
  numbered zero L m h = tt
  numbered (suc k) L m h = (record { below = omega arith; is = refl }, numbered k (suc L) m (omega arith))

  pub place_vacant : (rule : Rule) (e k : ℕ) (h : Handle) → place_in g rule e (homes_at g s table k 0) ≡ Some (AsItStands h) → Vacant g s table e k h
  unfolding place_in place_by handle_in fitting
  place_vacant rule e k h q = go (least rule (fitting e hs)) (to_reclaim g e hs) refl q
    where
      hs : List Home
      hs = homes_at g s table k 0

      found : (x : Home) → least rule (fitting e hs) ≡ some x → handle_in x ≡ h → Vacant g s table e k h
      found x p r =
          let m = least_holds (Numbered k) rule (fitting e hs) (every_filter (Numbered k) (λ (y : Home). fits e y.room) hs (numbered k 0 k (omega arith))) x p in
          let f = least_fits rule e hs x p in
          let u : h.unit ≡ x.number = ap (λ (z : Handle). z.unit) (sym r) in
          let v : h.position ≡ vacant x.room.array = ap (λ (z : Handle). z.position) (sym r) in
          let i : x ≡ home_in g s table h.unit = m.is ∙ ap (home_in g s table) (sym u) in
          record { below = omega (arith, m.below); position = v ∙ ap (λ (y : Home). vacant y.room.array) i; room = ap (λ (y : Home). fits e y.room) (sym i) ∙ f }

      go : (a b : math.Option Home) → least rule (fitting e hs) ≡ a → place_by a b ≡ Some (AsItStands h) → Vacant g s table e k h
      go (some x) b p r = found x p (let t : handle_in x ≡ h = cc in t)
      go none (some y) p r = cc
      go none none p r = cc
