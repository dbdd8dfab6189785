-- What is known of each entry of an image whose homes are known: where it stands, and that it is what is read there.
use Prim.Native.Nat.{ℕ, zero, suc, ◌+◌, ◌*◌, ◌-◌, ◌/◌, ◌%◌, ◌≤◌, ◌<◌}
use native.Mathlib.Omega.{arith}
use Rattle.std.proofs.Common.{add-one, add-zero, ◌∙◌}
use Rattle.std.proofs.Math.Nat.{mul-add-div_right, mul-div_right, div-eq_of_lt, zero-add}
use Rattle.std.proofs.Math.Path.{◌≡◌, sym, ap, subst}
use Rattle.std.specs.Prelude.{refl, Bool, cond, length}
use Rattle.std.proofs.Math.Bool.{true, false}
use mathlib.Core.List.{List, ◌∷◌, ◌++◌}
use Rattle.std.proofs.Math.Option.{Option, none, some}
use Rattle.std.proofs.Math.ListN.{get_or, drop}
use Rattle.rules.specs.Lists.{filter, first}
use Rattle.rules.specs.Flash.{Bytes, word}
use Rattle.rules.specs.Unit.{descriptor, header_bytes, descriptor_bytes, stands}
use Rattle.rules.specs.Settled.{Home, Entry, physical, entries_in, entries_of, survey}
use Rattle.laws.specs.Words.{word_drop, word_take}
use Rattle.rules.specs.declared.Geometry.{Geometry}
use Rattle.laws.specs.Units.{RightGeometry, right_geometry, row}
use Rattle.unit.specs.Shapes.{descriptor_at, room_of, table, array_of}
use Rattle.unit.specs.Laws.{next_place, room_in_lem}
use Rattle.unit.specs.BridgeRoom.{array_is}
use Rattle.home_table.specs.Bridge.{unit_at, standing, houses}
use Rattle.index.specs.Shapes.{place_of, Homed, Spot, EachEntry, end, and, Stood, descriptor_in, base_at, start_at, handle_at}
use Rattle.index.specs.Lent.{rows_eight}

module _ {P : Entry → Type 0} where
  pub each_append : {xs ys : List Entry} → EachEntry P xs → EachEntry P ys → EachEntry P (xs ++ ys)
  each_append end t = t
  each_append (and p r) t = and p (each_append r t)

  pub each_filter : (f : Entry → Bool) {es : List Entry} → EachEntry P es → EachEntry P (filter f es)
  unfolding filter
  each_filter f end = end
  each_filter f (and {e} {es} p r) = go (f e) (each_filter f r)
    where
      go : (b : Bool) → EachEntry P (filter f es) → EachEntry P (cond b (e ∷ filter f es) (filter f es))
      go true t = and p t
      go false t = t

  pub each_first : {es : List Entry} {e : Entry} → EachEntry P es → first es ≡ some e → P e
  unfolding first
  each_first end q = let z : ◌≡◌ {A = ℕ} 0 1 = cc in absurd (omega arith)
  each_first (and p r) q = subst P (cc) p

-- the words of a unit are words of the image
pub desc_unit : (S : ℕ) (s : Bytes) (h a : ℕ) → a + 8 ≤ S → descriptor_at (unit_at S s h) a ≡ descriptor_at s (h * S + a)
unfolding descriptor
desc_unit S s h a k = rw (at 0 (omega arith), at 2 (omega arith), at 4 (omega arith), at 6 (omega arith))
  where
    at : (x : ℕ) → x + 2 ≤ 8 → word (drop a (unit_at S s h)) x ≡ word (drop (h * S + a) s) x
    at x l =
        let e : h * S + a + x ≡ h * S + (a + x) = omega arith in
        word_drop a (unit_at S s h) x ∙ word_take S (drop (h * S) s) (a + x) (omega arith) ∙ word_drop (h * S) s (a + x) ∙ sym (word_drop (h * S + a) s x ∙ ap (word s) e)

-- ---- the entries of one home, and of all
module _ (g : Geometry) (s : Bytes) (o : RightGeometry g s) (L h : ℕ) (below : h < g.units) (number : word s (h * g.size) ≡ L) where
  stood_in : (k i : ℕ) → stands (i + k) ≤ g.size
      → EachEntry (Stood g s) (entries_in L (standing g.size s h) i (table k (drop (stands i) (unit_at g.size s h))))
  unfolding entries_in table physical stands
  stood_in zero i l = end
  stood_in (suc k) i l =
      let u = unit_at g.size s h in
      let d = desc_unit g.size s h (stands i) (omega arith) in
      let w : stands i + descriptor_bytes ≤ g.size = omega arith in
      let e : drop 8 (drop (stands i) u) ≡ drop (stands (suc i)) u = next_place u i ∙ ap (λ (n : ℕ). drop (stands n) u) (add-one i) in
      and
      (record {
        unit = h;
        below = below;
        place = refl;
        within = w;
        number = number;
        descriptor = sym d;
        start = refl;
      })
      (subst (λ (r : Bytes). EachEntry (Stood g s) (entries_in L (standing g.size s h) (suc i) (table k r))) (sym e) (stood_in k (suc i) (omega arith)))

module _ (g : Geometry) (s : Bytes) (home : List ℕ) (known : Homed g s home) where
  o : RightGeometry g s
  o = right_geometry g s known.right

  stood_homes : (k L : ℕ) → L + k ≤ g.units - 1 → EachEntry (Stood g s) (entries_of (houses g s home k L))
  unfolding entries_of houses array_of physical stands
  stood_homes zero L l = end
  stood_homes (suc k) L l =
      let h = get_or home L 0 in
      let u = unit_at g.size s h in
      let n = (room_of g.size u).n in
      let a : EachEntry (Stood g s) (entries_in L (standing g.size s h) 0 (array_of n u)) =
      stood_in g s o L h (known.below L (omega arith)) (known.number L (omega arith)) n 0 (rw zero-add (room_in_lem g.size u (omega (arith, o.large))).n) in
      each_append (rw (array_is g u) at a) (stood_homes k (L + 1) (omega arith))

  pub stood : EachEntry (Stood g s) (survey g s).entries
  unfolding survey
  stood = subst (λ (hs : List Home). EachEntry (Stood g s) (entries_of hs)) (sym known.homes) (stood_homes (g.units - 1) 0 (omega arith))

-- ---- what is read at an entry's place
module _ (g : Geometry) (s : Bytes) (e : Entry) (o : RightGeometry g s) (at : Stood g s e) where
  pub base_is : base_at g e.place ≡ at.unit * g.size
  unfolding base_at stands
  base_is =
      let S = g.size in
      let q : (at.unit * S + stands e.at.position) / S ≡ at.unit + stands e.at.position / S = mul-add-div_right (omega (arith, o.large)) at.unit (stands e.at.position) in
      let z : stands e.at.position / S ≡ 0 = div-eq_of_lt (omega (arith, at.within)) in
      rw (at.place, q, z, add-zero)

  pub spot_is : Spot (length s) e.place
  unfolding stands
  spot_is =
      let z : (at.unit * g.size) % 8 ≡ 0 = rows_eight at.unit g.size o.eight in
      record {
        whole = rw at.place (omega arith);
        inside = omega (arith, at.place, at.within, row at.unit g.units g.size at.below, o.whole);
      }

  pub place_high : header_bytes ≤ e.place - base_at g e.place
  unfolding stands
  place_high = rw base_is (omega (arith, at.place))

  pub handle_is : handle_at g s e.place ≡ e.at
  unfolding handle_at stands
  handle_is =
      let p = e.at.position in
      let d : e.place - at.unit * g.size - header_bytes ≡ descriptor_bytes * p = omega (arith, at.place) in
      let q : descriptor_bytes * p / descriptor_bytes ≡ p = mul-div_right p (omega arith) in
      rw (base_is, d, q, at.number)

  pub start_is : start_at g s e.place ≡ e.start
  unfolding start_at
  start_is = rw (base_is, at.descriptor) (sym at.start)

-- ---- an entry that may be there
abbrev pub MayStand : Geometry → Bytes → Option Entry → Type 0
MayStand g s o = (e : Entry) → o ≡ some e → Stood g s e

pub no_place : (g : Geometry) (s : Bytes) (o : Option Entry) → MayStand g s o → place_of o ≡ 0 → o ≡ none
unfolding place_of stands
no_place g s none h z = refl
no_place g s (some e) h z = absurd (omega (arith, (h e refl).place))

-- what its place tells
pub record PlaceTells (g : Geometry) (s : Bytes) (o : Option Entry) : Type 0 where
  pub entry : Entry
  pub is : o ≡ some entry
  pub spot : Spot (length s) (place_of o)
  pub high : header_bytes ≤ place_of o - base_at g (place_of o)
  pub handle : handle_at g s (place_of o) ≡ entry.at
  pub start : start_at g s (place_of o) ≡ entry.start
  pub descriptor : descriptor_in s (place_of o) ≡ entry.descriptor

pub at_place : (g : Geometry) (s : Bytes) → RightGeometry g s → (o : Option Entry) → MayStand g s o → (place_of o ≡ 0 → ⊥) → PlaceTells g s o
unfolding place_of
at_place g s o none h n = absurd (n refl)
at_place g s o (some e) h n =
    let p = h e refl in
    record {
      entry = e;
      is = refl;
      spot = spot_is g s e o p;
      high = place_high g s e o p;
      handle = handle_is g s e o p;
      start = start_is g s e o p;
      descriptor = p.descriptor;
    }
