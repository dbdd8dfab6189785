-- A home whose descriptor is filled is still good. A sector is carved from the gap's upper end.
use Rattle.std.specs.Prelude.{Bool, ◌&&◌, ◌||◌, cond, false, true, List, [], ◌++◌, ◌∷◌, ◌≡◌, refl, eqb, leb}
use Rattle.std.proofs.Math.Bool.{not}
use Rattle.std.proofs.Common.{◌∙◌, subst, sym, arith, length-append}
use Rattle.std.proofs.Math.Path.{ap}
use Prim.Native.Nat.{◌%◌, ◌+◌, ◌-◌, ◌≤◌, min, ℕ}
use Rattle.std.proofs.Math.ListN.{length}
use Rattle.rules.specs.Flash.{Bytes}
use Rattle.rules.specs.Lists.{all}
use Rattle.rules.specs.Unit.{Descriptor, all_apart, apart, disjoint, has_sector, is_empty, is_listed, is_placed, is_tagged, lies, lower, lowest, size}
use Rattle.rules.specs.Unit.{stands}
use Rattle.rules.specs.declared.Geometry.{Geometry}
use Rattle.laws.specs.Rooms.{lowest_le}
use Rattle.theory.specs.Base.Facts.{all_append, all_cons, all_replace, all_uncons, and_l, and_r, both, eq_of, leb_of, length_mid, or_last}
use Rattle.theory.specs.Images.Packing.{apart_uncons}
use Rattle.theory.specs.Images.Layout.{Good, apart_change, are_bytes, is_byte, lowest_change, tight, tight_change}
use Rattle.theory.specs.Images.Sectors.{AllAbove, all_above}

-- rest counts by its length only
pub rest_good : (g : Geometry) (ds : List Descriptor) (free : ℕ) (r t : Bytes) → length t ≡ length r → are_bytes t ≡ true → Good g ds free r → Good g ds free t
rest_good g ds free r t e b h =
    record { low = h.low; fills = ap (λ (x : ℕ). stands (length ds) + (free + x)) e ∙ h.fills; ends = h.ends; listed = h.listed; sectors = h.sectors; clear = h.clear; bytes = b }

-- one without a sector in place of another without
pub plain_good : (g : Geometry) (xs : List Descriptor) (d e : Descriptor) (ys : List Descriptor) (free : ℕ) (rest : Bytes) → has_sector d ≡ false → has_sector e ≡ false
    → is_listed e ≡ true → is_empty e ≡ false → Good g (xs ++ d ∷ ys) free rest → Good g (xs ++ e ∷ ys) free rest
unfolding lower is_placed apart
plain_good g xs d e ys free rest nd ne ls full h =
    record {
      low = lowest_change g.size xs d e ys (λ l. ap (λ (b : Bool). cond b (min l e.offset) l) ne ∙ sym (ap (λ (b : Bool). cond b (min l d.offset) l) nd)) ∙ h.low ∙ ap (λ (n : ℕ). stands n + free) (sym len);
      fills = ap (λ (n : ℕ). stands n + (free + length rest)) len ∙ h.fills;
      ends = tight_change xs d e ys full h.ends;
      listed = all_replace is_listed xs d e ys ls h.listed;
      sectors =
          ap (λ (n : ℕ). all (is_placed g (stands n)) (xs ++ e ∷ ys)) len
          ∙ all_replace (is_placed g (stands (length (xs ++ d ∷ ys)))) xs d e ys (ap (λ (b : Bool). not b || lies g (stands (length (xs ++ d ∷ ys))) e) ne) h.sectors;
      clear =
          apart_change xs d e ys
          (λ x. ap (λ (b : Bool). not b || not (has_sector x) || disjoint e x) ne ∙ sym (ap (λ (b : Bool). not b || not (has_sector x) || disjoint d x) nd))
          (λ x. ap (λ (b : Bool). not (has_sector x) || not b || disjoint x e) ne ∙ side x (disjoint x e) ∙ sym (ap (λ (b : Bool). not (has_sector x) || not b || disjoint x d) nd ∙ side x (disjoint x d)))
          ∙ h.clear;
      bytes = h.bytes;
    }
  where
    len : length (xs ++ e ∷ ys) ≡ length (xs ++ d ∷ ys)
    len = length_mid xs d e ys

    go : (b c : Bool) → b || true || c ≡ true
    go true c = refl
    go false c = refl

    side : (x : Descriptor) (c : Bool) → not (has_sector x) || true || c ≡ true
    side x c = go (not (has_sector x)) c

lies_more : (g : Geometry) (n m : ℕ) (d : Descriptor) → stands m ≤ d.offset → lies g (stands n) d ≡ true → lies g (stands m) d ≡ true
unfolding lies
lies_more g n m d h k = go (eqb (d.offset % 2) 0) (leb (stands n) d.offset) (leb (d.offset + size d) g.size) _ (leb_of (stands m) d.offset h) k
  where
    go : (a b c e : Bool) {x : Bool} → x ≡ true → a && b && c && e ≡ true → a && x && c && e ≡ true
    go a b c e q r = both (both (both (and_l a b (and_l (a && b) c (and_l (a && b && c) e r))) q) (and_r (a && b) c (and_l (a && b && c) e r))) (and_r (a && b && c) e r)

pub sectors_more : (g : Geometry) (n m : ℕ) (ds : List Descriptor) → AllAbove (stands m) ds → all (is_placed g (stands n)) ds ≡ true → all (is_placed g (stands m)) ds ≡ true
unfolding all is_placed
sectors_more g n m [] a h = refl
sectors_more g n m (d ∷ ds) a h =
    all_cons (is_placed g (stands m)) d ds (go (has_sector d) refl (all_uncons (is_placed g (stands n)) d ds h).0) (sectors_more g n m ds a.1 (all_uncons (is_placed g (stands n)) d ds h).1)
  where
    go : (b : Bool) → has_sector d ≡ b → not b || lies g (stands n) d ≡ true → not b || lies g (stands m) d ≡ true
    go true s q = lies_more g n m d (a.0 s) q
    go false s q = refl

-- ---- one more position, with no sector
pub lowest_append : (low : ℕ) (ds es : List Descriptor) → lowest low (ds ++ es) ≡ lowest (lowest low ds) es
unfolding lowest
lowest_append low [] es = refl
lowest_append low (d ∷ ds) es = lowest_append (lower low d) ds es

tight_last : (ds : List Descriptor) (e : Descriptor) → is_empty e ≡ false → tight (ds ++ e ∷ []) ≡ true
tight_last [] e h = ap not h
tight_last (d ∷ []) e h = ap not h
tight_last (d ∷ (c ∷ ds)) e h = tight_last (c ∷ ds) e h

apart_none : (d e : Descriptor) → has_sector e ≡ false → apart d e ≡ true
unfolding apart
apart_none d e n = ap (λ (b : Bool). not (has_sector d) || not b || disjoint d e) n ∙ go (not (has_sector d)) (disjoint d e)
  where
    go : (b c : Bool) → b || true || c ≡ true
    go true c = refl
    go false c = refl

apart_last : (ds : List Descriptor) (e : Descriptor) → has_sector e ≡ false → all_apart ds ≡ true → all_apart (ds ++ e ∷ []) ≡ true
unfolding all_apart all
apart_last [] e n h = refl
apart_last (d ∷ ds) e n h =
    ap (λ (b : Bool). elim b as (λ j. Bool) [ true ↦ all_apart (ds ++ e ∷ []) | false ↦ false ])
    (all_append (apart d) ds (e ∷ []) (apart_uncons d ds h).0 (all_cons (apart d) e [] (apart_none d e n) refl))
    ∙ apart_last ds e n (apart_uncons d ds h).1

pub longer_good : (g : Geometry) (ds : List Descriptor) (e : Descriptor) (free : ℕ) (rest : Bytes) → has_sector e ≡ false → is_listed e ≡ true → is_empty e ≡ false → 8 ≤ free
    → Good g ds free rest → Good g (ds ++ e ∷ []) (free - 8) rest
unfolding is_placed lowest stands lower all
longer_good g ds e free rest n ls full room h =
    record {
      low = lowest_append g.size ds (e ∷ []) ∙ ap (λ (b : Bool). cond b (min (lowest g.size ds) e.offset) (lowest g.size ds)) n ∙ h.low ∙ shift;
      fills = shift' ∙ h.fills;
      ends = tight_last ds e full;
      listed = all_append is_listed ds (e ∷ []) h.listed (all_cons is_listed e [] ls refl);
      sectors =
          all_append (is_placed g (stands (length (ds ++ e ∷ [])))) ds (e ∷ [])
          (sectors_more g (length ds) (length (ds ++ e ∷ [])) ds (all_above (stands (length (ds ++ e ∷ []))) g.size ds (omega (arith, len, h.low))) h.sectors)
          (all_cons (is_placed g (stands (length (ds ++ e ∷ [])))) e [] (ap (λ (b : Bool). not b || lies g (stands (length (ds ++ e ∷ []))) e) n) refl);
      clear = apart_last ds e n h.clear;
      bytes = h.bytes;
    }
  where
    len : length (ds ++ e ∷ []) ≡ length ds + 1
    len = length-append ds (e ∷ [])

    shift : stands (length ds) + free ≡ stands (length (ds ++ e ∷ [])) + (free - 8)
    shift = omega (arith, len)

    shift' : stands (length (ds ++ e ∷ [])) + (free - 8 + length rest) ≡ stands (length ds) + (free + length rest)
    shift' = omega (arith, len)

-- ---- a sector carved from the gap
lowest_put : (low : ℕ) (xs : List Descriptor) (d e : Descriptor) (ys : List Descriptor) → has_sector d ≡ false → has_sector e ≡ true → e.offset ≤ lowest low (xs ++ d ∷ ys)
    → lowest low (xs ++ e ∷ ys) ≡ e.offset
unfolding has_sector lower lowest
lowest_put low [] d e ys n s h = ap (λ (b : Bool). lowest (cond b (min low e.offset) low) ys) s ∙ go low ys (subst (λ (b : Bool). e.offset ≤ lowest (cond b (min low d.offset) low) ys) n h)
  where
    keep : (l : ℕ) (y : Descriptor) → e.offset ≤ lower l y → lower (min l e.offset) y ≡ min (lower l y) e.offset
    keep l y k = pick' (has_sector y) k
      where
        pick' : (b : Bool) → e.offset ≤ cond b (min l y.offset) l → cond b (min (min l e.offset) y.offset) (min l e.offset) ≡ min (cond b (min l y.offset) l) e.offset
        pick' true q = omega arith
        pick' false q = refl

    go : (l : ℕ) (zs : List Descriptor) → e.offset ≤ lowest l zs → lowest (min l e.offset) zs ≡ e.offset
    go l [] q = omega arith
    go l (z ∷ zs) q = ap (λ (x : ℕ). lowest x zs) (keep l z (omega (arith, q, lowest_le (lower l z) zs))) ∙ go (lower l z) zs q
lowest_put low (x ∷ xs) d e ys n s h = lowest_put (lower low x) xs d e ys n s h

-- all that are there keep disjoint of it, on either side
clear_right : (e x : Descriptor) → e.offset + size e ≤ x.offset → disjoint e x ≡ true
unfolding disjoint
clear_right e x h = go (eqb (size e) 0) (eqb (size x) 0) (leb_of (e.offset + size e) x.offset h)
  where
    go : (a b : Bool) {c : Bool} → c ≡ true → a || b || c || leb (x.offset + size x) e.offset ≡ true
    go true b q = refl
    go false true q = refl
    go false false q = ap (λ (c : Bool). c || leb (x.offset + size x) e.offset) q

clear_left : (e x : Descriptor) → e.offset + size e ≤ x.offset → disjoint x e ≡ true
unfolding disjoint
clear_left e x h = or_last (eqb (size x) 0) (eqb (size e) 0) (leb (x.offset + size x) e.offset) (leb_of (e.offset + size e) x.offset h)

apart_e : (e x : Descriptor) → (has_sector x ≡ true → e.offset + size e ≤ x.offset) → (apart e x ≡ true) × (apart x e ≡ true)
unfolding apart
apart_e e x h = go (has_sector x) (has_sector e) (λ s. clear_right e x (h s)) (λ s. clear_left e x (h s))
  where
    go : (b s : Bool) → (b ≡ true → disjoint e x ≡ true) → (b ≡ true → disjoint x e ≡ true) → (not s || not b || disjoint e x ≡ true) × (not b || not s || disjoint x e ≡ true)
    go true true p q = (p refl, q refl)
    go true false p q = (refl, refl)
    go false true p q = (refl, refl)
    go false false p q = (refl, refl)

apart_cons : (x : Descriptor) (xs : List Descriptor) → all (apart x) xs ≡ true → all_apart xs ≡ true → all_apart (x ∷ xs) ≡ true
unfolding all_apart
apart_cons x xs h k = ap (λ (b : Bool). elim b as (λ j. Bool) [ true ↦ all_apart xs | false ↦ false ]) h ∙ k

all_apart_e : (e : Descriptor) (ys : List Descriptor) → AllAbove (e.offset + size e) ys → all (apart e) ys ≡ true
unfolding all
all_apart_e e [] a = refl
all_apart_e e (y ∷ ys) a = all_cons (apart e) y ys (apart_e e y a.0).0 (all_apart_e e ys a.1)

apart_put : (xs : List Descriptor) (d e : Descriptor) (ys : List Descriptor) → AllAbove (e.offset + size e) (xs ++ d ∷ ys) → all_apart (xs ++ d ∷ ys) ≡ true → all_apart (xs ++ e ∷ ys) ≡ true
apart_put [] d e ys a h = apart_cons e ys (all_apart_e e ys a.1) (apart_uncons d ys h).1
apart_put (x ∷ xs) d e ys a h =
    apart_cons x (xs ++ e ∷ ys) (all_replace (apart x) xs d e ys (apart_e e x a.0).1 (apart_uncons x (xs ++ d ∷ ys) h).0) (apart_put xs d e ys a.1 (apart_uncons x (xs ++ d ∷ ys) h).1)

lowest_even : (g : Geometry) (n low : ℕ) (ds : List Descriptor) → low % 2 ≡ 0 → all (is_placed g (stands n)) ds ≡ true → lowest low ds % 2 ≡ 0
unfolding lowest lies is_placed lower
lowest_even g n low [] e h = e
lowest_even g n low (d ∷ ds) e h = lowest_even g n (lower low d) ds (go (has_sector d) (all_uncons (is_placed g (stands n)) d ds h).0) (all_uncons (is_placed g (stands n)) d ds h).1
  where
    evens : (a b c t : Bool) → a && b && c && t ≡ true → a ≡ true
    evens a b c t q = and_l a b (and_l (a && b) c (and_l (a && b && c) t q))

    two : (x y : ℕ) → x % 2 ≡ 0 → y % 2 ≡ 0 → min x y % 2 ≡ 0
    two x y p q = omega arith

    go : (b : Bool) → not b || lies g (stands n) d ≡ true → cond b (min low d.offset) low % 2 ≡ 0
    go true q = two low d.offset e (eq_of (d.offset % 2) 0 ((evens (eqb (d.offset % 2) 0) (leb (stands n) d.offset) (leb (d.offset + size d) g.size) _ q)))
    go false q = e

module _ (g : Geometry) (xs : List Descriptor) (d e : Descriptor) (ys : List Descriptor) (free : ℕ) (rest r : Bytes) (n : has_sector d ≡ false) (s : has_sector e ≡ true)
    (ls : is_listed e ≡ true) (full : is_empty e ≡ false) (tg : is_tagged e ≡ true) (even : g.size % 2 ≡ 0) (fit : size e ≤ free) (len : length r ≡ size e)
    (at : e.offset ≡ stands (length (xs ++ d ∷ ys)) + free - size e) (rb : are_bytes r ≡ true) where
  pub carve_good : Good g (xs ++ d ∷ ys) free rest → Good g (xs ++ e ∷ ys) (free - size e) (r ++ rest)
  unfolding is_placed lies size stands
  carve_good h =
      record {
        low = lowest_put g.size xs d e ys n s (omega (arith, h.low, at)) ∙ down;
        fills = full';
        ends = tight_change xs d e ys full h.ends;
        listed = all_replace is_listed xs d e ys ls h.listed;
        sectors =
            ap (λ (k : ℕ). all (is_placed g (stands k)) (xs ++ e ∷ ys)) same
            ∙ all_replace (is_placed g (stands N)) xs d e ys (ap (λ (b : Bool). not b || lies g (stands N) e) s ∙ here) h.sectors;
        clear = apart_put xs d e ys (all_above (e.offset + size e) g.size (xs ++ d ∷ ys) (omega (arith, h.low, at))) h.clear;
        bytes = all_append is_byte r rest rb h.bytes;
      }
    where
      N : ℕ
      N = length (xs ++ d ∷ ys)

      same : length (xs ++ e ∷ ys) ≡ length (xs ++ d ∷ ys)
      same = length_mid xs d e ys

      down : e.offset ≡ stands (length (xs ++ e ∷ ys)) + (free - size e)
      down = omega (arith, at, same)

      full' : stands (length (xs ++ e ∷ ys)) + (free - size e + length (r ++ rest)) ≡ g.size
      full' = omega (arith, same, h.fills, length-append r rest, len)

      even_low : lowest g.size (xs ++ d ∷ ys) % 2 ≡ 0
      even_low = lowest_even g (length (xs ++ d ∷ ys)) g.size (xs ++ d ∷ ys) even h.sectors

      even_size : (e.len + e.len % 2) % 2 ≡ 0
      even_size = omega arith

      sub_even : (a b c : ℕ) → a % 2 ≡ 0 → b % 2 ≡ 0 → c ≡ a - b → c % 2 ≡ 0
      sub_even a b c p q z = omega arith

      even_off : e.offset % 2 ≡ 0
      even_off = sub_even (lowest g.size (xs ++ d ∷ ys)) (e.len + e.len % 2) e.offset even_low even_size (at ∙ ap (λ (x : ℕ). x - (e.len + e.len % 2)) (sym h.low))

      here : lies g (stands (length (xs ++ d ∷ ys))) e ≡ true
      here = both (both (both (ap (λ (x : ℕ). eqb x 0) even_off) (leb_of (stands (length (xs ++ d ∷ ys))) e.offset (omega (arith, at)))) (leb_of (e.offset + size e) g.size (omega (arith, at, h.fills)))) tg
