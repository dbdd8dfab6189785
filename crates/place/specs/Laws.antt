-- A lent unit; the vacant position of one; and the searches over the homes, in the code's terms and in the reader's.
use Rattle.std.specs.Prelude.{◌≡◌, Bool, not, cond, length, get_or, take, drop, Option, Some, None}
use Rattle.std.specs.List.{find, cons_option, filter_map, range_with_len}
use Rattle.std.specs.Option.{option_map, unwrap_or}
use Rattle.std.proofs.Math.Path.{refl, sym, ap}
use Rattle.std.proofs.Common.{◌∙◌, length-take, length-drop, map}
use Rattle.std.proofs.Math.Bool.{true, false}
use mathlib.Core.List.{List, [], ◌∷◌}
use Prim.Native.Nat.{ℕ, zero, suc, ◌+◌, ◌-◌, ◌*◌, ◌≤◌, ◌<◌}
use native.Mathlib.Omega.{arith}
use Rattle.std.proofs.Math.Nat.{add-sub_cancel_left, zero-add}
use Rattle.std.proofs.lemmas.Iterator.Adapters.{option_map_id}
use Rattle.std.proofs.Math.Numerals.{add-one}
use Rattle.rules.specs.Lists.{filter}
use Rattle.rules.specs.Flash.{Bytes}
use Rattle.rules.specs.Unit.{Descriptor, blank, is_empty, room_of, room_for, stands, n}
use Rattle.rules.specs.Copy.{is_kept, packed}
use Rattle.rules.specs.Settled.{Home, physical}
use Rattle.rules.specs.Jobs.{vacant, fits, fitting, reclaimed}
use Rattle.laws.specs.Units.{RightGeometry, row}
use Rattle.rules.specs.declared.Geometry.{Geometry}
use Rattle.unit.specs.declared.Room as the_room_lem
use Rattle.unit.specs.Shapes
use Rattle.unit.specs.Shapes.{descriptor_at, table, array_of, unkept, RoomIs, Read}
use Rattle.unit.specs.Laws.{next_place, array_at, array_past}
use Rattle.unit.specs.BridgeFits.{gap_is, read_gives, read_array, kept_vacant}
use Rattle.place.specs.Homes.{WholeUnit, HomesTable, unit_in, home_in, homes_at}
use Rattle.place.specs.Search.{handle_in, fit_of, fit_in, told, told_at, room_once, once}
use Rattle.place.specs.declared.Fit.{Fit}

-- ---- a lent unit
pub lent_whole : (g : Geometry) (s : Bytes) (i : ℕ) → RightGeometry g s → i < g.units → WholeUnit g (unit_in g s i)
unfolding unit_in
lent_whole g s i a h =
    let r = row i g.units g.size h in
    let x = a.whole in
    record { long = simp (length-take, length-drop) (omega arith); large = omega (arith, a.large); small = a.small }

-- a unit lent at b
pub lent_is : (g : Geometry) (s : Bytes) (i b : ℕ) → b ≡ i * g.size → take (b + g.size - b) (drop b s) ≡ unit_in g s i
unfolding unit_in
lent_is g s i b e = ap (λ (k : ℕ). take k (drop b s)) (add-sub_cancel_left b g.size) ∙ ap (λ (a : ℕ). take g.size (drop a s)) e

pub read_by_lem : (g : Geometry) (u : Bytes) (r : the_room_lem.Room) → WholeUnit g u → r ≡ Shapes.room_of (length u) u → Read g u r
read_by_lem g u r w e = record { whole = w.long; large = w.large; small = w.small; room = e ∙ ap (λ (k : ℕ). Shapes.room_of k u) w.long }

module _ (g : Geometry) (s : Bytes) (tab : List ℕ) (L : ℕ) where
  pub home_bytes : (home_in g s tab L).unit.bytes ≡ unit_in g s (get_or tab L 0)
  unfolding home_in physical
  home_bytes = refl

  pub home_room : (home_in g s tab L).room ≡ room_of g (home_in g s tab L).unit.bytes
  unfolding home_in physical
  home_room = refl

  pub home_number : (home_in g s tab L).number ≡ L
  unfolding home_in
  home_number = refl

  pub home_whole : RightGeometry g s → HomesTable g tab → L < g.units - 1 → WholeUnit g (home_in g s tab L).unit.bytes
  home_whole a t h = rw home_bytes (lent_whole g s (get_or tab L 0) a (omega (arith, t L h)))

-- ---- the first position of a unit that passes a test, for a count F of those before it
module _ (u : Bytes) (t : Descriptor → Bool) (F : List Descriptor → ℕ) (none_left : F [] ≡ 0) (next : (d : Descriptor) (ds : List Descriptor) → F (d ∷ ds) ≡ cond (t d) 0 (suc (F ds))) where
  pub first_found : (k p : ℕ) → unwrap_or (find (λ (q : ℕ). t (descriptor_at u (stands q))) (range_with_len p k)) (p + k) ≡ p + F (table k (drop (stands p) u))
  unfolding table
  first_found zero p = rw none_left
  first_found (suc k) p = rw (next_place u p, next) (go (first_found k (p + 1)) (t (descriptor_at u (stands p))))
    where
      rest : Option ℕ
      rest = find (λ (q : ℕ). t (descriptor_at u (stands q))) (range_with_len (p + 1) k)

      behind : ℕ
      behind = F (table k (drop (stands (p + 1)) u))

      go : unwrap_or rest (p + 1 + k) ≡ p + 1 + behind → (b : Bool) → unwrap_or (cond b (Some p) rest) (p + suc k) ≡ p + cond b 0 (suc behind)
      go i true = omega arith
      go i false =
          let l : p + suc k ≡ p + 1 + k = omega arith in
          ap (unwrap_or rest) l ∙ i ∙ omega arith

  first_at : (n : ℕ) (r : Option ℕ) → option_map (λ (x : ℕ). x) r ≡ find (λ (q : ℕ). t (descriptor_at u (stands q))) (range_with_len 0 n) → unwrap_or r n ≡ F (array_of n u)
  unfolding array_of stands
  first_at n r e = rw (sym (option_map_id r) ∙ e) (simp zero-add at (first_found n 0))

pub first_empty_is : (u : Bytes) (n : ℕ) (r : Option ℕ) → option_map (λ (x : ℕ). x) r ≡ find (λ (p : ℕ). is_empty (descriptor_at u (stands p))) (range_with_len 0 n)
    → unwrap_or r n ≡ vacant (array_of n u)
unfolding vacant
first_empty_is u = first_at u is_empty vacant refl (λ d ds. go (is_empty d) (vacant ds))
  where
    go : (b : Bool) (m : ℕ) → (elim b as (λ (x : Bool). ℕ) [ true ↦ 0 | false ↦ suc m ]) ≡ cond b 0 (suc m)
    go true m = refl
    go false m = refl

pub first_unkept_is : (u : Bytes) (n : ℕ) (r : Option ℕ) → option_map (λ (x : ℕ). x) r ≡ find (λ (p : ℕ). not (is_kept (descriptor_at u (stands p)))) (range_with_len 0 n)
    → unwrap_or r n ≡ unkept (array_of n u)
unfolding unkept
first_unkept_is u = first_at u (λ d. not (is_kept d)) unkept refl (λ d ds. go (is_kept d) (unkept ds))
  where
    go : (b : Bool) (m : ℕ) → (elim b as (λ (x : Bool). ℕ) [ true ↦ suc m | false ↦ 0 ]) ≡ cond (not b) 0 (suc m)
    go true m = refl
    go false m = refl

-- ---- a room that fits
told_is : (e number v : ℕ) (r : the_room_lem.Room) (h : Home) → number ≡ h.number → RoomIs r h.room → v ≡ vacant h.room.array → told number r v e ≡ fit_in e h
unfolding fit_in fits fit_of handle_in
told_is e number v r h same is f = rw (gap_is r h.room e is, is.n, f, same)

-- ---- a position of a unit
module _ (number : ℕ) (r : the_room_lem.Room) (u : Bytes) (e p : ℕ) where
  pub told_used : p < r.n → is_empty (descriptor_at u (stands p)) ≡ false → None ≡ told_at number r (array_of r.n u) p e
  unfolding told_at
  told_used l h = rw (array_at r.n p u l, h) refl

  pub told_empty : p < r.n → is_empty (descriptor_at u (stands p)) ≡ true → told number r p e ≡ told_at number r (array_of r.n u) p e
  unfolding told_at
  told_empty l h = rw (array_at r.n p u l, h) refl

  pub told_end : r.n ≤ p → told number r p e ≡ told_at number r (array_of r.n u) p e
  unfolding told_at
  told_end l = rw (array_past r.n p u l) (unfold is_empty blank in refl)

-- a home as it stands, and once reclaimed
module _ (g : Geometry) (s : Bytes) (tab : List ℕ) (L e : ℕ) (u : Bytes) (w : WholeUnit g u) (same : u ≡ (home_in g s tab L).unit.bytes) (r : the_room_lem.Room) (was : r ≡ Shapes.room_of (length u) u) where
  in_room : RoomIs r (home_in g s tab L).room
  in_room = rw (home_room g s tab L, ← same) (read_gives g u r (read_by_lem g u r w was))

  pub told_standing : (v : ℕ) → v ≡ vacant (array_of r.n u) → told L r v e ≡ fit_in e (home_in g s tab L)
  told_standing v f =
      told_is e L v r (home_in g s tab L) (sym (home_number g s tab L)) in_room
      (rw (home_room g s tab L, ← same) (f ∙ ap vacant (read_array g u r (read_by_lem g u r w was))))

  pub told_once : (c : the_room_lem.Room) (v : ℕ) → RoomIs c (room_for g (packed g.size (room_of g u).array)) → c.n ≤ r.n → v ≡ unkept (array_of c.n u)
      → told L c v e ≡ fit_in e (once g (home_in g s tab L))
  unfolding once room_once
  told_once c v is l f =
      told_is e L v c (once g (home_in g s tab L)) (sym (home_number g s tab L))
      (rw (home_room g s tab L, ← same) is)
      (rw (home_room g s tab L, ← same) (f ∙ kept_vacant g u r (read_by_lem g u r w was) c is l))

-- ---- the homes that fit, from left to right
filter_homes : (e : ℕ) (hs : List Home) → filter_map (fit_in e) hs ≡ map fit_of (fitting e hs)
unfolding fit_in fitting filter
filter_homes e [] = refl
filter_homes e (h ∷ hs) = go (filter_homes e hs) (fits e h.room)
  where
    go : filter_map (fit_in e) hs ≡ map fit_of (fitting e hs) → (b : Bool) → cons_option (cond b (Some (fit_of h)) None) (filter_map (fit_in e) hs) ≡ map fit_of (cond b (h ∷ fitting e hs) (fitting e hs))
    go i true = ap (λ (fs : List Fit). fit_of h ∷ fs) i
    go i false = i

-- of the homes of an image, as they stand and once reclaimed
module _ (g : Geometry) (s : Bytes) (tab : List ℕ) (e : ℕ) where
  standing_along : (k L : ℕ) → filter_map (λ (i : ℕ). fit_in e (home_in g s tab i)) (range_with_len L k) ≡ filter_map (fit_in e) (homes_at g s tab k L)
  unfolding homes_at
  standing_along zero L = refl
  standing_along (suc k) L = rw (add-one L) (ap (cons_option (fit_in e (home_in g s tab L))) (standing_along k (suc L)))

  once_along : (k L : ℕ) → filter_map (λ (i : ℕ). fit_in e (once g (home_in g s tab i))) (range_with_len L k) ≡ filter_map (fit_in e) (reclaimed g (homes_at g s tab k L))
  unfolding homes_at reclaimed once room_once
  once_along zero L = refl
  once_along (suc k) L = rw (add-one L) (ap (cons_option (fit_in e (once g (home_in g s tab L)))) (once_along k (suc L)))

  pub standing_fits : (k : ℕ) → filter_map (λ (i : ℕ). fit_in e (home_in g s tab i)) (range_with_len 0 k) ≡ map fit_of (fitting e (homes_at g s tab k 0))
  standing_fits k = standing_along k 0 ∙ filter_homes e (homes_at g s tab k 0)

  pub once_fits : (k : ℕ) → filter_map (λ (i : ℕ). fit_in e (once g (home_in g s tab i))) (range_with_len 0 k) ≡ map fit_of (fitting e (reclaimed g (homes_at g s tab k 0)))
  once_fits k = once_along k 0 ∙ filter_homes e (reclaimed g (homes_at g s tab k 0))
