-- Two sectors apart, as the code asks it; and a sector held against those before it.
use Rattle.std.specs.Prelude.{◌≡◌, Bool, not, ◌&&◌, ◌||◌, leb}
use Rattle.std.specs.List.{list_all}
use Rattle.std.proofs.Math.Path.{refl, ap}
use Rattle.std.proofs.Common.{sym, ◌∙◌}
use Rattle.std.proofs.Math.Bool.{true, false}
use mathlib.Core.List.{List, [], ◌∷◌}
use Prim.Native.Nat.{ℕ, zero, suc, ◌+◌, ◌≤◌}
use native.Mathlib.Omega.{arith}
use Rattle.std.proofs.Math.Dec.{eqb}
use borrow.Author.Tests.{eq-eqb, eqb-true, le-leb, leb-true}
use Rattle.rules.specs.Lists.{all}
use Rattle.rules.specs.Flash.{Bytes}
use Rattle.rules.specs.Unit.{Descriptor, stands, size, has_sector, lower, disjoint, apart}
use Rattle.unit.specs.Shapes.{descriptor_at, is_below, earlier, lowest_of}
use Rattle.laws.specs.Tests.{all_cons}
use Rattle.laws.specs.Rooms.{lower_le}

-- ---- two sectors

-- the tests of two sectors, in the order that they are put
abbrev apart_by : (s t z z' u v : Bool) → Bool
apart_by s t z z' u v = not s || not t || (z || z' || u || v)

by_empty : (s t z' u v : Bool) → apart_by s t true z' u v ≡ true
by_empty false t z' u v = refl
by_empty true false z' u v = refl
by_empty true true z' u v = refl

by_other : (s t z u v : Bool) → apart_by s t z true u v ≡ true
by_other s t true u v = by_empty s t true u v
by_other false t false u v = refl
by_other true false false u v = refl
by_other true true false u v = refl

by_left : (s t z z' v : Bool) → apart_by s t z z' true v ≡ true
by_left s t true z' v = by_empty s t z' true v
by_left s t false true v = by_other s t false true v
by_left false t false false v = refl
by_left true false false false v = refl
by_left true true false false v = refl

by_turn : (s t z z' u v : Bool) → apart_by s t z z' u v ≡ apart_by t s z' z v u
by_turn s t true z' u v = by_empty s t z' u v ∙ sym (by_other t s z' v u)
by_turn s t false true u v = by_other s t false u v ∙ sym (by_empty t s false v u)
by_turn false false false false u v = refl
by_turn false true false false u v = refl
by_turn true false false false u v = refl
by_turn true true false false true true = refl
by_turn true true false false true false = refl
by_turn true true false false false true = refl
by_turn true true false false false false = refl

apart_is : (d e : Descriptor) → apart d e
    ≡ apart_by (has_sector d) (has_sector e) (eqb (size d) 0) (eqb (size e) 0) (leb (d.offset + size d) e.offset) (leb (e.offset + size e) d.offset)
unfolding apart disjoint
apart_is d e = refl

pub apart_turn : (d e : Descriptor) → apart d e ≡ apart e d
apart_turn d e =
    apart_is d e
    ∙ by_turn (has_sector d) (has_sector e) (eqb (size d) 0) (eqb (size e) 0) (leb (d.offset + size d) e.offset) (leb (e.offset + size e) d.offset)
    ∙ sym (apart_is e d)

module _ (d e : Descriptor) where
  apart_below : d.offset + size d ≤ e.offset → apart d e ≡ true
  apart_below h = apart_is d e ∙ rw (le-leb (d.offset + size d) e.offset h) (by_left (has_sector d) (has_sector e) (eqb (size d) 0) (eqb (size e) 0) (leb (e.offset + size e) d.offset))

  apart_empty : size d ≡ 0 → apart d e ≡ true
  apart_empty h = apart_is d e ∙ rw (eq-eqb (size d) 0 h) (by_empty (has_sector d) (has_sector e) (eqb (size e) 0) (leb (d.offset + size d) e.offset) (leb (e.offset + size e) d.offset))

  apart_none : has_sector d ≡ false → apart d e ≡ true
  apart_none h = apart_is d e ∙ rw h

-- ---- those before

module _ (u : Bytes) (p : ℕ) (d : Descriptor) (i : d ≡ descriptor_at u (stands p)) where
  pub earlier_next : earlier (p + 1) u ≡ d ∷ earlier p u
  unfolding earlier
  earlier_next =
      let k : p + 1 ≡ suc p = omega arith in
      rw (k, i)

  pub lowest_next : (top : ℕ) → lowest_of top (earlier (p + 1) u) ≡ lower (lowest_of top (earlier p u)) d
  unfolding lowest_of
  lowest_next top = ap (lowest_of top) earlier_next

lower_off : (d : Descriptor) (low : ℕ) → has_sector d ≡ true → lower low d ≤ d.offset
unfolding lower
lower_off d low s = rw s (omega arith)

-- a sector that ends at or below the lowest offset of those before is apart from each of them
module _ (top : ℕ) (d : Descriptor) where
  ends : (low : ℕ) → is_below d low ≡ true → (e : Descriptor) → (has_sector e ≡ true → low ≤ e.offset) → apart d e ≡ true
  unfolding is_below
  ends low b e h = go (has_sector d) (has_sector e) (eqb (size d) 0) refl refl refl b
    where
      go : (s t z : Bool) → has_sector d ≡ s → has_sector e ≡ t → eqb (size d) 0 ≡ z → (not s || z || leb (d.offset + size d) low) ≡ true
          → apart d e ≡ true
      go false t z es et ez b = apart_none d e es
      go true false z es et ez b = apart_turn d e ∙ apart_none e d et
      go true true true es et ez b = apart_empty d e (eqb-true (size d) 0 ez)
      go true true false es et ez b = apart_below d e (omega (arith, leb-true (d.offset + size d) low b, h et))

  under : (low : ℕ) → is_below d low ≡ true → (es : List Descriptor) → low ≤ lowest_of top es → all (apart d) es ≡ true
  unfolding all lowest_of
  under low b [] h = refl
  under low b (e ∷ es) h =
      all_cons (apart d) e es (ends low b e (λ s. let k = lower_off e (lowest_of top es) s in omega arith))
      (under low b es (let k = lower_le (lowest_of top es) e in omega arith))

  pub below_clear : (es : List Descriptor) → is_below d (lowest_of top es) ≡ true → all (apart d) es ≡ true
  below_clear es b = under (lowest_of top es) b es (omega arith)

-- ---- all before, by their positions
-- the n numbers from a on, the last first
abbrev pub down : ℕ → ℕ → List ℕ
down a zero = []
down a (suc n) = (a + n) ∷ down a n

pub clear_is : (u : Bytes) (d : Descriptor) (p : ℕ) → list_all (λ q. apart d (descriptor_at u (stands q))) (down 0 p) ≡ all (apart d) (earlier p u)
unfolding all earlier
clear_is u d zero = refl
clear_is u d (suc p) =
    let z : 0 + p ≡ p = omega arith in
    rw z (go (apart d (descriptor_at u (stands p))) (clear_is u d p))
  where
    go : (x : Bool) → list_all (λ q. apart d (descriptor_at u (stands q))) (down 0 p) ≡ all (apart d) (earlier p u)
        → (x && list_all (λ q. apart d (descriptor_at u (stands q))) (down 0 p)) ≡ (elim x as (λ (b : Bool). Bool) [ true ↦ all (apart d) (earlier p u) | false ↦ false ])
    go true e = e
    go false e = refl
