-- Where a store is placed: a home that fits as it stands, or one that fits once it is reclaimed.
use Rattle.std.specs.Prelude.{Bool, cond, false, true, ◌≡◌, length}
use mathlib.Core.List.{List, [], ◌∷◌}
use Rattle.std.proofs.Math.Option.{Option, none, some}
use Rattle.std.proofs.Common.{◌∙◌, subst, sym, add-zero, zero-add}
use Rattle.std.proofs.Math.Path.{ap, refl}
use Prim.Native.Nat.{◌+◌, ◌<◌, suc, ℕ}
use native.Mathlib.Omega.{arith}
use Rattle.std.proofs.Math.ListN.{get_or}
use Rattle.rules.specs.Lists.{filter}
use Rattle.rules.specs.Copy.{packed}
use Rattle.rules.specs.Jobs.{Place, as_it_stands, chosen, fits, fitting, least, no_room, once_reclaimed, place, reclaimed, to_reclaim}
use Rattle.laws.specs.Lists.{Every}
use Rattle.laws.specs.Places.{least_holds, to_reclaim_fits}
use Rattle.rules.specs.Settled.{Home, Survey}
use Rattle.rules.specs.Unit.{Room, room_for, stands}
use Rattle.rules.specs.declared.Geometry.{Geometry}
use Rattle.rules.specs.declared.Rule.{Rule}
use Rattle.theory.specs.Images.Model.{LaidHome, home_of, homes_of, no_laid_home}
use Rattle.theory.specs.Storing.Stores.{p}

each_fitting : (P : Home → Type 0) (e : ℕ) (l : List Home) → Every P l → Every (λ h. P h × (fits e h.room ≡ true)) (fitting e l)
unfolding filter fitting
each_fitting P e [] a = tt
each_fitting P e (h ∷ l) a = go (fits e h.room) refl (each_fitting P e l a.1)
  where
    Q : Home → Type 0
    Q x = P x × (fits e x.room ≡ true)

    go : (b : Bool) → fits e h.room ≡ b → Every Q (fitting e l) → Every Q (cond b (h ∷ fitting e l) (fitting e l))
    go true q r = ((a.0, q), r)
    go false q r = r

-- home i of the list, with a room made of its array
record NthHome (g : Geometry) (ps : List LaidHome) (room : LaidHome → Room) (h : Home) : Type 0 where
  i : ℕ
  number_is : h.number ≡ i
  inside : i < length ps
  room_is : h.room ≡ room (get_or ps i no_laid_home)

abbrev pub room_here : LaidHome → Room
room_here p = record { array = p.array; low = stands (length p.array) + p.gap }

abbrev pub room_then : Geometry → LaidHome → Room
room_then g p = room_for g (packed g.size p.array)

module _ (g : Geometry) (all_ps : List LaidHome) where
  Later : ℕ → List LaidHome → Type 0
  Later k ps = (i : ℕ) → i < length ps → (k + i < length all_ps) × (get_or all_ps (k + i) no_laid_home ≡ get_or ps i no_laid_home)

  later_next : (k : ℕ) (p : LaidHome) (ps : List LaidHome) → Later k (p ∷ ps) → Later (suc k) ps
  unfolding Later
  later_next k p ps f i l =
      let r = f (suc i) (omega arith) in
      (omega (arith, r.0), ap (λ (n : ℕ). get_or all_ps n no_laid_home) more ∙ r.1)
    where
      more : suc k + i ≡ k + suc i
      more = omega arith

  here_at : (k : ℕ) (p : LaidHome) (ps : List LaidHome) (room : LaidHome → Room) (h : Home) → h.number ≡ k → h.room ≡ room p → Later k (p ∷ ps) → NthHome g all_ps room h
  unfolding Later
  here_at k p ps room h n r f =
      let z = f 0 (omega arith) in
      record { i = k; number_is = n; inside = omega (arith, z.0); room_is = r ∙ ap room (sym (ap (λ (n : ℕ). get_or all_ps n no_laid_home) (sym (add-zero k)) ∙ z.1)) }

  each_here : (k : ℕ) (ps : List LaidHome) → Later k ps → Every (NthHome g all_ps room_here) (homes_of g k ps)
  each_here k [] f = tt
  each_here k (p ∷ ps) f = (here_at k p ps room_here (home_of g k p) refl refl f, each_here (suc k) ps (later_next k p ps f))

  each_then : (k : ℕ) (ps : List LaidHome) → Later k ps → Every (NthHome g all_ps (room_then g)) (reclaimed g (homes_of g k ps))
  unfolding reclaimed
  each_then k [] f = tt
  each_then k (p ∷ ps) f = (
    here_at k p ps (room_then g) (record { number = k; unit = (home_of g k p).unit; room = room_then g p }) refl refl f,
    each_then (suc k) ps (later_next k p ps f),
  )

  from_all : Later 0 all_ps
  unfolding Later
  from_all i l = (omega arith, ap (λ (n : ℕ). get_or all_ps n no_laid_home) (zero-add i))

-- what a place means
pub data Placed (g : Geometry) (ps : List LaidHome) (e : ℕ) : Place → Type 0 where
  fits_here : (i : ℕ) → i < length ps → fits e (room_here (get_or ps i no_laid_home)) ≡ true → Placed g ps e (as_it_stands i)
  fits_then : (i : ℕ) → i < length ps → fits e (room_then g (get_or ps i no_laid_home)) ≡ true → Placed g ps e (once_reclaimed i)
  fits_nowhere : Placed g ps e no_room

pub placed : (g : Geometry) (ps : List LaidHome) (rule : Rule) (e : ℕ) (v : Survey) → v.homes ≡ homes_of g 0 ps → Placed g ps e (place g rule e v)
unfolding chosen place
placed g ps rule e v q = subst (Placed g ps e) (sym (ap (λ (hs : List Home). chosen (least rule (fitting e hs)) (to_reclaim g e hs)) q)) (go (least rule (fitting e (homes_of g 0 ps))) (to_reclaim g e (homes_of g 0 ps)) refl refl)
  where
    go : (a b : Option Home) → least rule (fitting e (homes_of g 0 ps)) ≡ a → to_reclaim g e (homes_of g 0 ps) ≡ b → Placed g ps e (chosen a b)
    go (some h) b p r =
        let z = least_holds (λ h. NthHome g ps room_here h × (fits e h.room ≡ true)) rule (fitting e (homes_of g 0 ps)) (each_fitting (NthHome g ps room_here) e (homes_of g 0 ps) (each_here g ps 0 ps (from_all g ps))) h p in
        subst (λ (n : ℕ). Placed g ps e (as_it_stands n)) (sym z.0.number_is) (fits_here z.0.i z.0.inside (ap (fits e) (sym z.0.room_is) ∙ z.1))
    go none (some h) p r =
        let z = to_reclaim_fits (NthHome g ps (room_then g)) g e (homes_of g 0 ps) (each_then g ps 0 ps (from_all g ps)) h r in
        subst (λ (n : ℕ). Placed g ps e (once_reclaimed n)) (sym z.0.number_is) (fits_then z.0.i z.0.inside (ap (fits e) (sym z.0.room_is) ∙ z.1))
    go none none p r = fits_nowhere
