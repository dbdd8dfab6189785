-- The descriptors of the homes, each shown in turn to a visitor who makes of itself what m says: in order, and as the code reads them.
use Rattle.std.specs.Prelude.{◌≡◌, refl, Bool, true, List, [], ◌∷◌, ℕ, zero, suc, ◌+◌, ◌-◌, ◌*◌, ◌≤◌, ◌<◌, ◌&&◌, leb, ltb, eqb, length, get_or, drop}
use Rattle.std.specs.List.{fold}
use Rattle.std.proofs.Common.{add-one, ap, sym, ◌∙◌, arith, ltb-true, ltb-false, leb-true, leb-false, eqb-true}
use Rattle.std.proofs.Math.Nat.{sub-zero}
use borrow.Author.Tests.{le-leb, lt-leb}
use Rattle.std.proofs.Math.Bool.{false}
use Rattle.std.proofs.lemmas.List.Sums.{fold-append}
use Rattle.rules.specs.Flash.{Bytes, word, is_geometry}
use Rattle.rules.specs.Unit
use Rattle.rules.specs.Unit.{Descriptor, descriptor, is_empty, lower, header_bytes, descriptor_bytes, stands}
use Rattle.rules.specs.Settled.{Home, Entry, survey, physical, entries_in, entries_of}
use Rattle.rules.specs.declared.Geometry.{Geometry}
use Rattle.laws.specs.Tests.{and_inv}
use Rattle.laws.specs.Rooms.{lower_none, empty_none}
use Rattle.unit.specs.declared.Room.{Room}
use Rattle.unit.specs.Shapes.{descriptor_at, reach, upward, used_from, room_of, table, array_of}
use Rattle.unit.specs.Laws.{next_place, reach_le, upward_least, used_next, used_here, used_end}
use Rattle.unit.specs.BridgeRoom.{array_is}
use Rattle.home_table.specs.Bridge.{unit_at, standing, houses}

-- The table names the home of each logical number 0..U-2.
pub record Homed (g : Geometry) (s : Bytes) (home : List ℕ) : Type 0 where
  pub right : is_geometry g (length s) ≡ true
  pub below : (L : ℕ) → L < g.units - 1 → get_or home L 0 < g.units
  pub number : (L : ℕ) → L < g.units - 1 → word s (get_or home L 0 * g.size) ≡ L
  pub homes : (survey g s).homes ≡ houses g s home (g.units - 1) 0

-- what is empty has erased flags and an erased tag
pub empty_words : (d : Descriptor) → is_empty d ≡ true → (d.flags ≡ 0xFFFF) × (d.tag ≡ 0xFFFF)
unfolding is_empty
empty_words d h =
    let f = eqb d.flags 0xFFFF in
    let t = eqb d.tag 0xFFFF in
    let o = eqb d.offset 0xFFFF in
    let a = and_inv f t (and_inv (f && t) o (and_inv (f && t && o) (eqb d.len 0xFFFF) h).0).0 in
    (eqb-true d.flags 0xFFFF a.0, eqb-true d.tag 0xFFFF a.1)

-- the descriptors of a unit's array
unfoldable pub array_in : Bytes → List Descriptor
array_in u = array_of (room_of (length u) u).n u

module _ {V : Type 0} (m : ℕ → Descriptor → V → V) where
  -- What the descriptors of the entries, one after the other, make of x.
  unfoldable pub met_all : List Entry → V → V
  met_all es x = fold (λ (y : V) (e : Entry). m e.place e.descriptor y) x es

  -- the descriptors from position p on, of the unit at base
  unfoldable pub met_from : ℕ → ℕ → List Descriptor → V → V
  met_from base p [] x = x
  met_from base p (d ∷ ds) x = met_from base (p + 1) ds (m (base + stands p) d x)

  -- the descriptors of the unit at base, read upward from position p on as its room is
  unfoldable pub met_up : ℕ → ℕ → Bytes → ℕ → ℕ → V → V
  met_up base zero r p low x = x
  met_up base (suc k) r p low x =
      let d = descriptor r in
      elim (leb (stands p + descriptor_bytes) low) [
        | true ↦ met_up base k (drop descriptor_bytes r) (p + 1) (lower low d) (m (base + stands p) d x)
        | false ↦ x
      ]

  -- ---- one turn of the loop over a unit
  module _ (u : Bytes) (base S p low : ℕ) (x : V) where
    pub up_turn : p < S → stands p + 8 ≤ low
        → met_up base (S - p) (drop (stands p) u) p low x
        ≡ met_up base (S - (p + 1)) (drop (stands (p + 1)) u) (p + 1) (lower low (descriptor_at u (stands p))) (m (base + stands p) (descriptor_at u (stands p)) x)
    unfolding met_up
    up_turn h k =
        let e : S - p ≡ suc (S - (p + 1)) = omega arith in
        rw e (rw (le-leb (stands p + 8) low k, met_up) (rw (next_place u p)))

    pub up_end : low < stands p + 8 → met_up base (S - p) (drop (stands p) u) p low x ≡ x
    unfolding met_up
    up_end k = go (S - p)
      where
        go : (f : ℕ) → met_up base f (drop (stands p) u) p low x ≡ x
        go zero = refl
        go (suc f) = rw (lt-leb (stands p + 8) low k, met_up)

  -- ---- the descriptors that are read so, but for empty ones, are those of the array
  module _ (skips : (a : ℕ) (d : Descriptor) (x : V) → is_empty d ≡ true → m a d x ≡ x) where
    up_is : (base k : ℕ) (r : Bytes) (p low n : ℕ) (x : V) → n ≤ p → met_up base k r p low x ≡ met_from base p (table ((upward k r p low n).n - p) r) x
    unfolding met_up upward table met_from reach
    up_is base zero r p low n x l =
        let e : n - p ≡ 0 = omega arith in
        rw e
    up_is base (suc k) r p low n x l = go (leb (stands p + descriptor_bytes) low) (λ q h. up_is base k (drop descriptor_bytes r) (p + 1) (lower low (descriptor r)) (reach (descriptor r) n p) q h)
      where
        d : Descriptor
        d = descriptor r

        N : ℕ
        N = (upward k (drop descriptor_bytes r) (p + 1) (lower low d) (reach d n p)).n

        one : V
        one = m (base + stands p) d x

        last : (b : Bool) → is_empty d ≡ b → reach d n p ≤ N → N ≤ p → one ≡ x
        last true e h w = skips (base + stands p) d x e
        last false e h w =
            let q : reach d n p ≡ p + 1 = rw e in
            absurd (omega (arith, q))

        stay : (b : Bool) → ltb p N ≡ b → met_from base (p + 1) (table (N - (p + 1)) (drop descriptor_bytes r)) one ≡ met_from base p (table (N - p) r) x
        stay true e =
            let o = ltb-true p N e in
            let q : N - p ≡ suc (N - (p + 1)) = omega arith in
            rw q
        stay false e =
            let o = ltb-false p N e in
            let q : N - p ≡ 0 = omega arith in
            let w : N - (p + 1) ≡ 0 = omega arith in
            rw (q, w) (last (is_empty d) refl (upward_least k (drop descriptor_bytes r) (p + 1) (lower low d) (reach d n p) (reach_le d n p l)) (omega arith))

        go : (b : Bool) → ((q : V) → reach d n p ≤ p + 1 → met_up base k (drop descriptor_bytes r) (p + 1) (lower low d) q ≡ met_from base (p + 1) (table (N - (p + 1)) (drop descriptor_bytes r)) q)
            → (elim b as (λ (y : Bool). V) [ true ↦ met_up base k (drop descriptor_bytes r) (p + 1) (lower low d) one | false ↦ x ])
            ≡ met_from base p (table ((elim b as (λ (y : Bool). Room) [ true ↦ upward k (drop descriptor_bytes r) (p + 1) (lower low d) (reach d n p) | false ↦ record { n = n; low = low } ]).n - p) r) x
        go true rec = rec one (reach_le d n p l) ∙ stay (ltb p N) refl
        go false rec =
            let e : n - p ≡ 0 = omega arith in
            rw e

    -- an empty one changes nothing, and has no sector
    up_past : (u : Bytes) (base S p low : ℕ) (x : V) → p < S → stands p + 8 ≤ low → is_empty (descriptor_at u (stands p)) ≡ true
        → met_up base (S - p) (drop (stands p) u) p low x ≡ met_up base (S - (p + 1)) (drop (stands (p + 1)) u) (p + 1) low x
    up_past u base S p low x l k e =
        let d = descriptor_at u (stands p) in
        up_turn u base S p low x l k ∙ rw (skips (base + stands p) d x e, lower_none low d (empty_none d e))

    -- empty ones are passed over
    module _ (u : Bytes) (base S low : ℕ) (l : low ≤ S) (x : V) where
      over : (k p : ℕ) → k ≡ S - p
          → met_up base (S - p) (drop (stands p) u) p low x
          ≡ (let q = used_from (S - p) (drop (stands p) u) p low in met_up base (S - q) (drop (stands q) u) q low x)
      unfolding stands
      over zero p f = rw (used_end u S p low (omega arith))
      over (suc k) p f = go (over k (p + 1) (omega arith)) (leb (stands p + 8) low) (is_empty (descriptor_at u (stands p))) refl refl
        where
          go : met_up base (S - (p + 1)) (drop (stands (p + 1)) u) (p + 1) low x
              ≡ (let q = used_from (S - (p + 1)) (drop (stands (p + 1)) u) (p + 1) low in met_up base (S - q) (drop (stands q) u) q low x)
              → (y z : Bool) → leb (stands p + 8) low ≡ y → is_empty (descriptor_at u (stands p)) ≡ z
              → met_up base (S - p) (drop (stands p) u) p low x
              ≡ (let q = used_from (S - p) (drop (stands p) u) p low in met_up base (S - q) (drop (stands q) u) q low x)
          go rec false z d e = rw (used_end u S p low (leb-false (stands p + 8) low d))
          go rec true false d e = rw (used_here u S p low (omega arith) (leb-true (stands p + 8) low d) e)
          go rec true true d e =
              let t : stands p + 8 ≤ low = leb-true (stands p + 8) low d in
              rw (used_next u S p low (omega arith) t e) (up_past u base S p low x (omega arith) t e ∙ rec)

      pub up_over : (p q : ℕ) → q ≡ used_from (S - p) (drop (stands p) u) p low → met_up base (S - p) (drop (stands p) u) p low x ≡ met_up base (S - q) (drop (stands q) u) q low x
      up_over p q e = rw e (over (S - p) p refl)

    -- the whole unit
    pub unit_met : (base : ℕ) (u : Bytes) (x : V) → met_up base (length u) (drop header_bytes u) 0 (length u) x ≡ met_from base 0 (array_in u) x
    unfolding array_in room_of array_of
    unit_met base u x = up_is base (length u) (drop header_bytes u) 0 (length u) 0 x (omega arith) ∙ rw sub-zero

  -- ---- the descriptors of the homes are those of the entries
  in_unit : (S : ℕ) (s : Bytes) (L h i : ℕ) (ds : List Descriptor) (x : V) → met_from (h * S) i ds x ≡ met_all (entries_in L (standing S s h) i ds) x
  unfolding met_from met_all entries_in physical
  in_unit S s L h i [] x = refl
  in_unit S s L h i (d ∷ ds) x = rw (add-one i) (in_unit S s L h (suc i) ds _)

  -- all homes
  pub homes_met : (g : Geometry) (s : Bytes) (home : List ℕ) → Homed g s home → (x : V) → met_all (entries_of (houses g s home (g.units - 1 - 0) 0)) x ≡ met_all (survey g s).entries x
  unfolding survey
  homes_met g s home known x = rw sub-zero (ap (λ (hs : List Home). met_all (entries_of hs) x) (sym known.homes))

  module _ (g : Geometry) (s : Bytes) (home : List ℕ) (n L : ℕ) (x : V) where
    -- one home more
    pub homes_turn : L < n → (u : Bytes) → length u ≡ g.size → u ≡ unit_at g.size s (get_or home L 0)
        → met_all (entries_of (houses g s home (n - L) L)) x
        ≡ met_all (entries_of (houses g s home (n - (L + 1)) (L + 1))) (met_from (get_or home L 0 * g.size) 0 (array_in u) x)
    unfolding houses entries_of met_all array_in physical
    homes_turn l u w e =
        let h = get_or home L 0 in
        let k : n - L ≡ suc (n - (L + 1)) = omega arith in
        let a : array_of (room_of (length u) u).n u ≡ (Unit.room_of g (unit_at g.size s h)).array = rw (w, e) (array_is g (unit_at g.size s h)) in
        rw (k, a, in_unit g.size s L h 0 (Unit.room_of g (unit_at g.size s h)).array x)
        (fold-append (λ (y : V) (e : Entry). m e.place e.descriptor y) x (entries_in L (standing g.size s h) 0 (Unit.room_of g (unit_at g.size s h)).array) (entries_of (houses g s home (n - (L + 1)) (L + 1))))

    -- no home is left
    pub homes_end : n ≤ L → met_all (entries_of (houses g s home (n - L) L)) x ≡ x
    unfolding houses entries_of met_all
    homes_end l =
        let k : n - L ≡ 0 = omega arith in
        rw k
