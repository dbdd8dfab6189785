-- C is a complete copy of src. Where each word of D from byte 4 on is C's, or where not all need be, FFFF, D passes as a copy of src.
use Prim.Native.Nat.{ℕ, zero, suc, ◌+◌, ◌*◌, ◌-◌, ◌/◌, ◌%◌, ◌≤◌, ◌<◌}
use native.Mathlib.Omega.{arith}
use Rattle.std.specs.Prelude.{◌≡◌, Bool, not, ◌&&◌, ◌||◌, Option, Some, None, get_or, drop, leb}
use Rattle.std.proofs.Math.Path.{refl, sym, ap}
use Rattle.std.proofs.Math.Bool.{true, false, cond}
use mathlib.Core.List.{List, [], ◌∷◌}
use borrow.Author.Tests.{leb-true, eqb-true, eq-eqb}
use Rattle.std.proofs.Math.ListN.{length, take, length-drop}
use Rattle.std.proofs.Common.{get_or-drop, ◌∙◌}
use Rattle.std.proofs.Math.Dec.{eqb}
use Rattle.rules.specs.Lists.{all}
use Rattle.rules.specs.Flash.{Bytes, word, erased}
use Rattle.rules.specs.Unit.{Descriptor, descriptor, stands, size, is_empty}
use Rattle.rules.specs.Copy.{is_kept}
use Rattle.laws.specs.Complete.{is_plain}
use Rattle.laws.specs.Words.{word_drop}
use Rattle.laws.specs.Tests.{and_inv}
use Rattle.laws.specs.Copies.{moved}
use Rattle.unit.specs.Shapes.{descriptor_at, room_of}
use Rattle.unit.specs.Laws.{room_in_lem}
use Rattle.unit.specs.Tests.{no, elim_inv}
use Rattle.copy.specs.Stream.{holds, agree, movable, same_four, kept_there, placed, past, copy_from, is_copy}

-- what four tests in a row say
pub four_inv : (a b c d : Bool) → (a && b && c && d) ≡ true → (a ≡ true) × (b ≡ true) × (c ≡ true) × (d ≡ true)
four_inv true true true d e = (refl, refl, refl, e)
four_inv true true false d e = no e
four_inv true false c d e = no e
four_inv false b c d e = no e

pub holds_true : (v w : ℕ) → holds true v w ≡ true → w ≡ v
unfolding holds
holds_true v w e = go (eqb w v) refl e
  where
    go : (x : Bool) → eqb w v ≡ x → (x || false) ≡ true → w ≡ v
    go true p e = eqb-true w v p
    go false p e = no e

pub holds_same : (whole : Bool) (v w : ℕ) → w ≡ v → holds whole v w ≡ true
unfolding holds
holds_same whole v w e = rw (eq-eqb w v e)

pub holds_blank : (v w : ℕ) → w ≡ 0xFFFF → holds false v w ≡ true
unfolding holds
holds_blank v w e = rw (eq-eqb w 0xFFFF e) (go (eqb w v))
  where
    go : (x : Bool) → (x || true) ≡ true
    go true = refl
    go false = refl

-- ---- where a position's sector comes to lie

-- what a position that is past says
pub record Past (x : Option ℕ) (on : ℕ → Bool) : Type 0 where
  pub lies : ℕ
  pub there : x ≡ Some lies
  pub rest : on lies ≡ true

pub past_inv : (x : Option ℕ) (on : ℕ → Bool) → past x on ≡ true → Past x on
unfolding past
past_inv (Some o) on e = record { lies = o; there = refl; rest = e }
past_inv None on e = no e

-- what a sector that can be copied is
pub record CanMove (d : Descriptor) (top floor low : ℕ) : Type 0 where
  pub inside : d.offset + size d ≤ top
  pub above : floor + size d ≤ low

pub movable_inv : (d : Descriptor) (top floor low : ℕ) → movable d top floor low ≡ true → CanMove d top floor low
unfolding movable
movable_inv d top floor low e =
    let i = four_inv (leb d.len 256) (eqb (d.offset % 2) 0) (leb (d.offset + size d) top) (leb (floor + size d) low) e in
    record { inside = leb-true (d.offset + size d) top i.2; above = leb-true (floor + size d) low i.3 }

module _ (whole : Bool) (src dst : Bytes) (floor low : ℕ) (d e : Descriptor) where
  -- d is kept and its copy stands, packed below low
  pub record KeptThere : Type 0 where
    pub kept : is_kept d ≡ true
    pub movable : movable d (length src) floor low ≡ true
    pub four : same_four whole (moved (low - size d) d) e ≡ true
    pub words : agree whole (size d / 2) (drop d.offset src) (drop (low - size d) dst) ≡ true

  -- d is not kept and its position is empty
  pub record Left : Type 0 where
    pub left : is_kept d ≡ false
    pub empty : is_empty e ≡ true

  -- what a position that stands says
  pub data Position (o : ℕ) : Type 0 where
    is_kept_there : KeptThere → low - size d ≡ o → Position o
    is_left : Left → low ≡ o → Position o

  pub position : (o : ℕ) → placed whole src dst floor low d e ≡ Some o → Position o
  unfolding placed kept_there
  position o ok =
      go (is_kept d) (movable d (length src) floor low) (same_four whole (moved (low - size d) d) e) (agree whole (size d / 2) (drop d.offset src) (drop (low - size d) dst)) (is_empty e) refl refl refl refl refl ok
    where
      go : (x m s a z : Bool) → is_kept d ≡ x → movable d (length src) floor low ≡ m → same_four whole (moved (low - size d) d) e ≡ s
          → agree whole (size d / 2) (drop d.offset src) (drop (low - size d) dst) ≡ a → is_empty e ≡ z
          → cond x (cond (m && s && a) (Some (low - size d)) None) (cond z (Some low) None) ≡ Some o → Position o
      go true true true true z kx mx sx ax zx ok = is_kept_there (record { kept = kx; movable = mx; four = sx; words = ax }) cc
      go true true true false z kx mx sx ax zx ok = cc
      go true true false a z kx mx sx ax zx ok = cc
      go true false s a z kx mx sx ax zx ok = cc
      go false m s a true kx mx sx ax zx ok = is_left (record { left = kx; empty = zx }) cc
      go false m s a false kx mx sx ax zx ok = cc

  pub kept_stands : KeptThere → placed whole src dst floor low d e ≡ Some (low - size d)
  unfolding placed kept_there
  kept_stands k = rw (k.kept, k.movable, k.four, k.words)

  pub left_stands : Left → placed whole src dst floor low d e ≡ Some low
  unfolding placed
  left_stands l = rw (l.left, l.empty)

  -- no higher than low
  pub placed_low : (o : ℕ) → placed whole src dst floor low d e ≡ Some o → o ≤ low
  placed_low o ok = go (position o ok)
    where
      go : Position o → o ≤ low
      go (is_kept_there k q) = omega arith
      go (is_left l q) = omega arith

  -- no lower than floor
  pub placed_above : (o : ℕ) → floor ≤ low → placed whole src dst floor low d e ≡ Some o → floor ≤ o
  placed_above o h ok = go (position o ok)
    where
      go : Position o → floor ≤ o
      go (is_kept_there k q) =
          let f = movable_inv d (length src) floor low k.movable in
          omega (arith, f.above)
      go (is_left l q) = omega arith

-- ---- a descriptor

-- the four words of d stand in e
pub record Four (whole : Bool) (d e : Descriptor) : Type 0 where
  pub flags : holds whole d.flags e.flags ≡ true
  pub offset : holds whole d.offset e.offset ≡ true
  pub len : holds whole d.len e.len ≡ true
  pub tag : holds whole d.tag e.tag ≡ true

pub four_there : (whole : Bool) (d e : Descriptor) → same_four whole d e ≡ true → Four whole d e
unfolding same_four
four_there whole d e s = let i = four_inv _ _ _ _ s in
    record { flags = i.0; offset = i.1; len = i.2; tag = i.3 }

pub four_same : (whole : Bool) (d e : Descriptor) → Four whole d e → same_four whole d e ≡ true
unfolding same_four
four_same whole d e f = rw (f.flags, f.offset, f.len) f.tag

-- the descriptors that stand at a
pub four_at : (whole : Bool) (C D : Bytes) (a : ℕ) → ((k : ℕ) → k % 2 ≡ 0 → k < 8 → holds whole (word C (a + k)) (word D (a + k)) ≡ true)
    → Four whole (descriptor_at C a) (descriptor_at D a)
unfolding descriptor
four_at whole C D a f =
    record {
      flags = rw (word_drop a C 0, word_drop a D 0) (f 0 refl (omega arith));
      offset = rw (word_drop a C 2, word_drop a D 2) (f 2 refl (omega arith));
      len = rw (word_drop a C 4, word_drop a D 4) (f 4 refl (omega arith));
      tag = rw (word_drop a C 6, word_drop a D 6) (f 6 refl (omega arith));
    }

module _ (whole : Bool) where
  pub through : (v w x : ℕ) → holds true v w ≡ true → holds whole w x ≡ true → holds whole v x ≡ true
  through v w x e f = rw (holds_true v w e) at f

  pub agree_within : (k : ℕ) (a c d : List ℕ) → agree true k a c ≡ true
      → ((i : ℕ) → i < k → holds whole (word c (2 * i)) (word d (2 * i)) ≡ true) → agree whole k a d ≡ true
  unfolding agree
  agree_within zero a c d e f = refl
  agree_within (suc k) a c d e f =
      let i = elim_inv (holds true (word a 0) (word c 0)) (agree true k (drop 2 a) (drop 2 c)) e in
      let s : holds whole (word a 0) (word d 0) ≡ true = through (word a 0) (word c 0) (word d 0) i.0 (f 0 (omega arith)) in
      rw (s, agree) (agree_within k (drop 2 a) (drop 2 c) (drop 2 d) i.1 (λ j l. shift j l))
    where
      shift : (j : ℕ) → j < k → holds whole (word (drop 2 c) (2 * j)) (word (drop 2 d) (2 * j)) ≡ true
      shift j l =
          let e : 2 + 2 * j ≡ 2 * suc j = omega arith in
          rw (word_drop 2 c (2 * j), word_drop 2 d (2 * j), e) (f (suc j) (omega arith))

  -- ---- a descriptor
  pub blank_word : (v w : ℕ) → eqb v 0xFFFF ≡ true → holds whole v w ≡ true → eqb w 0xFFFF ≡ true
  unfolding holds
  blank_word v w e f =
      let p : v ≡ 0xFFFF = eqb-true v 0xFFFF e in
      let g : (eqb w 0xFFFF || (not whole && eqb w 0xFFFF)) ≡ true = rw p at f in
      go (eqb w 0xFFFF) whole g
    where
      go : (x y : Bool) → (x || (not y && x)) ≡ true → x ≡ true
      go true y q = refl
      go false true q = q
      go false false q = q

  same_within : (d e e' : Descriptor) → Four true d e → Four whole e e' → same_four whole d e' ≡ true
  same_within d e e' s f =
      four_same whole d e' (record {
        flags = through d.flags e.flags e'.flags s.flags f.flags;
        offset = through d.offset e.offset e'.offset s.offset f.offset;
        len = through d.len e.len e'.len s.len f.len;
        tag = through d.tag e.tag e'.tag s.tag f.tag;
      })

  empty_within : (e e' : Descriptor) → is_empty e ≡ true → Four whole e e' → is_empty e' ≡ true
  unfolding is_empty
  empty_within e e' s f =
      let i = four_inv _ _ _ _ s in
      rw (blank_word e.flags e'.flags i.0 f.flags, blank_word e.tag e'.tag i.1 f.tag, blank_word e.offset e'.offset i.2 f.offset)
      (blank_word e.len e'.len i.3 f.len)

  -- ---- erased words: k of them
  pub gap_within : (k : ℕ) (c d : List ℕ) → erased (take (2 * k) c) ≡ true → 2 * k ≤ length c → 2 * k ≤ length d
      → ((i : ℕ) → get_or d i 0 < 256) → ((i : ℕ) → i < k → holds whole (word c (2 * i)) (word d (2 * i)) ≡ true) → erased (take (2 * k) d) ≡ true
  unfolding erased all word
  gap_within zero c d e lc ld by f = refl
  gap_within (suc k) [] d e lc ld by f = absurd (omega arith)
  gap_within (suc k) (x ∷ []) d e lc ld by f = absurd (omega arith)
  gap_within (suc k) (x ∷ y ∷ c) [] e lc ld by f = absurd (omega arith)
  gap_within (suc k) (x ∷ y ∷ c) (x' ∷ []) e lc ld by f = absurd (omega arith)
  gap_within (suc k) (x ∷ y ∷ c) (x' ∷ y' ∷ d) e lc ld by f =
      let t : 2 * suc k ≡ suc (suc (2 * k)) = omega arith in
      let e' : erased (x ∷ y ∷ take (2 * k) c) ≡ true = rw t at e in
      let i = elim_inv (eqb 255 x) (erased (y ∷ take (2 * k) c)) e' in
      let j = elim_inv (eqb 255 y) (erased (take (2 * k) c)) i.1 in
      let ex : x ≡ 255 = sym (eqb-true 255 x i.0) in
      let ey : y ≡ 255 = sym (eqb-true 255 y j.0) in
      let v : eqb (x + 256 * y) 0xFFFF ≡ true = eq-eqb (x + 256 * y) 0xFFFF (omega arith) in
      let w : x' + 256 * y' ≡ 0xFFFF = eqb-true (x' + 256 * y') 0xFFFF (blank_word (x + 256 * y) (x' + 256 * y') v (f 0 (omega arith))) in
      let ex' : x' ≡ 255 = omega (arith, by 0, by 1) in
      let ey' : y' ≡ 255 = omega (arith, by 0, by 1) in
      rw t (rw (eq-eqb 255 x' (sym ex'), all) (rw (eq-eqb 255 y' (sym ey'), all)
      (gap_within k c d j.1 (omega arith) (omega arith) (λ n. by (suc (suc n))) (λ n l. shift n l))))
    where
      shift : (n : ℕ) → n < k → holds whole (word c (2 * n)) (word d (2 * n)) ≡ true
      shift n l =
          let g : holds whole (word (drop 2 (x ∷ y ∷ c)) (2 * n)) (word (drop 2 (x' ∷ y' ∷ d)) (2 * n)) ≡ true =
          let e : 2 + 2 * n ≡ 2 * suc n = omega arith in
          rw (word_drop 2 (x ∷ y ∷ c) (2 * n), word_drop 2 (x' ∷ y' ∷ d) (2 * n), e) (f (suc n) (omega arith)) in
          g

  -- ---- one position, all positions, the whole unit: C is a complete copy of src, D has each of its words or FFFF
  module _ (src C D : List ℕ) (lc : length C ≡ length src) (ld : length D ≡ length src) (by : (i : ℕ) → get_or D i 0 < 256)
      (W : (o : ℕ) → 4 ≤ o → o % 2 ≡ 0 → o + 2 ≤ length src → holds whole (word C o) (word D o) ≡ true) where
    module _ (floor p low : ℕ) (hf : 4 ≤ floor) (in' : stands p + 8 ≤ length src) (le : low ≤ length src) (ev : low % 2 ≡ 0) (d : Descriptor) where
      pub placed_within : (o : ℕ) → placed true src C floor low d (descriptor_at C (stands p)) ≡ Some o
          → (placed whole src D floor low d (descriptor_at D (stands p)) ≡ Some o) × (o % 2 ≡ 0)
      unfolding size stands
      placed_within o ok = go (position true src C floor low d (descriptor_at C (stands p)) o ok)
        where
          words : Four whole (descriptor_at C (stands p)) (descriptor_at D (stands p))
          words = four_at whole C D (stands p) (λ k e l. W (stands p + k) (omega arith) (omega arith) (omega arith))

          go : Position true src C floor low d (descriptor_at C (stands p)) o → (placed whole src D floor low d (descriptor_at D (stands p)) ≡ Some o) × (o % 2 ≡ 0)
          go (is_kept_there k q) =
              let f = movable_inv d (length src) floor low k.movable in
              let data' : (i : ℕ) → i < size d / 2 → holds whole (word (drop (low - size d) C) (2 * i)) (word (drop (low - size d) D) (2 * i)) ≡ true =
              λ i l. rw (word_drop (low - size d) C (2 * i), word_drop (low - size d) D (2 * i)) (W (low - size d + 2 * i) (omega (arith, f.above)) (omega (arith, f.above)) (omega (arith, f.above))) in (
                kept_stands whole src D floor low d (descriptor_at D (stands p)) (record {
                  kept = k.kept;
                  movable = k.movable;
                  four = same_within (moved (low - size d) d) (descriptor_at C (stands p)) (descriptor_at D (stands p)) (four_there true (moved (low - size d) d) (descriptor_at C (stands p)) k.four) words;
                  words = agree_within (size d / 2) (drop d.offset src) (drop (low - size d) C) (drop (low - size d) D) k.words data';
                }) ∙ ap Some q,
                omega (arith, f.above),
              )
          go (is_left l q) = (
            left_stands whole src D floor low d (descriptor_at D (stands p)) (record { left = l.left; empty = empty_within (descriptor_at C (stands p)) (descriptor_at D (stands p)) l.empty words }) ∙ ap Some q,
            omega arith,
          )

    pub copy_within : (n k p low : ℕ) → stands (p + k) ≤ length src → low ≤ length src → low % 2 ≡ 0 → copy_from true src C (stands n) k p low ≡ true → copy_from whole src D (stands n) k p low ≡ true
    unfolding copy_from past stands
    copy_within n zero p low pl le ev ok =
        let h = (low - stands n) / 2 in
        let t : low - stands n ≡ 2 * ((low - stands n) / 2) = omega arith in
        let ok' : erased (take (2 * ((low - stands n) / 2)) (drop (stands n) C)) ≡ true = rw t at ok in
        rw t (gap_within h (drop (stands n) C) (drop (stands n) D) ok' (simp length-drop (omega arith)) (simp length-drop (omega arith))
        (λ i. rw (get_or-drop (stands n) D i 0) (by (stands n + i)))
        (λ i l. rw (word_drop (stands n) C (2 * i), word_drop (stands n) D (2 * i)) (W (stands n + 2 * i) (omega arith) (omega arith) (omega arith))))
    copy_within n (suc k) p low pl le ev ok =
        let i = past_inv (placed true src C (stands n) low (descriptor_at src (stands p)) (descriptor_at C (stands p))) (copy_from true src C (stands n) k (p + 1)) ok in
        let w = placed_within (stands n) p low (omega arith) (omega arith) le ev (descriptor_at src (stands p)) i.lies i.there in
        let l = placed_low true src C (stands n) low (descriptor_at src (stands p)) (descriptor_at C (stands p)) i.lies i.there in
        rw (copy_from, w.0) (copy_within n k (p + 1) i.lies (omega arith) (omega arith) w.1 i.rest)

  -- THE LAW: C is a complete copy of src, and each word of D from byte 4 on is C's, or where not all need be, FFFF: then D passes
  pub within : (src C D : List ℕ) → length C ≡ length src → length D ≡ length src → ((i : ℕ) → get_or D i 0 < 256) → 16 ≤ length src → length src % 2 ≡ 0
      → ((o : ℕ) → 4 ≤ o → o % 2 ≡ 0 → o + 2 ≤ length src → holds whole (word C o) (word D o) ≡ true)
      → is_copy true src C ≡ true → is_copy whole src D ≡ true
  unfolding is_copy stands
  within src C D lc ld by large ev W ok =
      let n = (room_of (length src) src).n in
      let i = and_inv (is_plain C) (copy_from true src C (stands (room_of (length src) src).n) (room_of (length src) src).n 0 (length src)) ok in
      let h : stands (room_of (length src) src).n ≤ length src = (room_in_lem (length src) src large).n in
      let g : erased (take 12 (drop 4 D)) ≡ true =
      gap_within 6 (drop 4 C) (drop 4 D) i.0 (simp length-drop (omega arith)) (simp length-drop (omega arith))
      (λ j. rw (get_or-drop 4 D j 0) (by (4 + j)))
      (λ j l. rw (word_drop 4 C (2 * j), word_drop 4 D (2 * j)) (W (4 + 2 * j) (omega arith) (omega arith) (omega arith))) in
      rw g (copy_within src C D lc ld by W n n 0 (length src) (omega arith) (omega arith) ev i.1)
