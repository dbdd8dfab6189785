-- The other way round: what passes as a copy of src has at each word from byte 4 on the complete copy's, or where not all need be, FFFF.
use Prim.Native.Nat.{ℕ, zero, suc, ◌+◌, ◌*◌, ◌-◌, ◌/◌, ◌%◌, ◌≤◌, ◌<◌}
use native.Mathlib.Omega.{arith}
use Rattle.std.specs.Prelude.{◌≡◌, Some, drop, eqb}
use Rattle.std.proofs.Math.Path.{refl, sym, ap}
use Rattle.std.proofs.Common.{◌∙◌}
use Rattle.std.proofs.Math.Bool.{Bool, true, false}
use mathlib.Core.List.{List, [], ◌∷◌}
use borrow.Author.Tests.{eqb-true, eq-eqb, ltb-true, ltb-false}
use Rattle.std.proofs.Math.ListN.{length, take, length-drop}
use Rattle.std.proofs.Math.Dec.{ltb}
use Rattle.rules.specs.Lists.{all}
use Rattle.rules.specs.Flash.{word, erased}
use Rattle.rules.specs.Unit.{Descriptor, descriptor, stands, size, is_empty}
use Rattle.laws.specs.Complete.{is_plain}
use Rattle.laws.specs.Words.{word_drop}
use Rattle.laws.specs.Tests.{and_inv}
use Rattle.laws.specs.Copies.{moved}
use Rattle.unit.specs.Shapes.{descriptor_at, room_of}
use Rattle.unit.specs.Laws.{room_in_lem}
use Rattle.unit.specs.Tests.{elim_inv}
use Rattle.copy.specs.Stream.{holds, agree, placed, past, copy_from, is_copy}
use Rattle.copy.specs.Within.{movable_inv, holds_true, four_inv, past_inv, Position, is_kept_there, is_left, position, placed_low, Four, four_there}

module _ (whole : Bool) where
  back : (v c d : ℕ) → holds true v c ≡ true → holds whole v d ≡ true → holds whole c d ≡ true
  back v c d e f = rw (holds_true v c e) f

  both_blank : (v w : ℕ) → eqb v 0xFFFF ≡ true → eqb w 0xFFFF ≡ true → holds whole v w ≡ true
  unfolding holds
  both_blank v w e f =
      let p : v ≡ 0xFFFF = eqb-true v 0xFFFF e in
      let q : w ≡ 0xFFFF = eqb-true w 0xFFFF f in
      rw (eq-eqb w v (q ∙ sym p))

  agree_back : (k : ℕ) (a c d : List ℕ) → agree true k a c ≡ true → agree whole k a d ≡ true → (i : ℕ) → i < k → holds whole (word c (2 * i)) (word d (2 * i)) ≡ true
  unfolding agree
  agree_back zero a c d e f i l = absurd (omega arith)
  agree_back (suc k) a c d e f zero l =
      let x = elim_inv (holds true (word a 0) (word c 0)) (agree true k (drop 2 a) (drop 2 c)) e in
      let y = elim_inv (holds whole (word a 0) (word d 0)) (agree whole k (drop 2 a) (drop 2 d)) f in
      back (word a 0) (word c 0) (word d 0) x.0 y.0
  agree_back (suc k) a c d e f (suc i) l =
      let x = elim_inv (holds true (word a 0) (word c 0)) (agree true k (drop 2 a) (drop 2 c)) e in
      let y = elim_inv (holds whole (word a 0) (word d 0)) (agree whole k (drop 2 a) (drop 2 d)) f in
      let t : 2 + 2 * i ≡ 2 * suc i = omega arith in
      let r : holds whole (word (drop 2 c) (2 * i)) (word (drop 2 d) (2 * i)) ≡ true = agree_back k (drop 2 a) (drop 2 c) (drop 2 d) x.1 y.1 i (omega arith) in
      rw (word_drop 2 c (2 * i), word_drop 2 d (2 * i), t) at r

  ff_word : (k : ℕ) (c : List ℕ) → erased (take (2 * k) c) ≡ true → 2 * k ≤ length c → (i : ℕ) → i < k → word c (2 * i) ≡ 0xFFFF
  unfolding erased all word
  ff_word zero c e l i h = absurd (omega arith)
  ff_word (suc k) [] e l i h = absurd (omega arith)
  ff_word (suc k) (x ∷ []) e l i h = absurd (omega arith)
  ff_word (suc k) (x ∷ y ∷ c) e l zero h =
      let t : 2 * suc k ≡ suc (suc (2 * k)) = omega arith in
      let e' : erased (x ∷ y ∷ take (2 * k) c) ≡ true = rw t at e in
      let a = elim_inv (eqb 255 x) (erased (y ∷ take (2 * k) c)) e' in
      let b = elim_inv (eqb 255 y) (erased (take (2 * k) c)) a.1 in
      omega (arith, eqb-true 255 x a.0, eqb-true 255 y b.0)
  ff_word (suc k) (x ∷ y ∷ c) e l (suc i) h =
      let t : 2 * suc k ≡ suc (suc (2 * k)) = omega arith in
      let e' : erased (x ∷ y ∷ take (2 * k) c) ≡ true = rw t at e in
      let a = elim_inv (eqb 255 x) (erased (y ∷ take (2 * k) c)) e' in
      let b = elim_inv (eqb 255 y) (erased (take (2 * k) c)) a.1 in
      let u : 2 * suc i ≡ 2 + 2 * i = omega arith in
      let r : word c (2 * i) ≡ 0xFFFF = ff_word k c b.1 (omega arith) i (omega arith) in
      ap (word (x ∷ y ∷ c)) u ∙ sym (word_drop 2 (x ∷ y ∷ c) (2 * i)) ∙ r

  same_back : (d e e' : Descriptor) → Four true d e → Four whole d e' → Four whole e e'
  same_back d e e' s t =
      record {
        flags = back d.flags e.flags e'.flags s.flags t.flags;
        offset = back d.offset e.offset e'.offset s.offset t.offset;
        len = back d.len e.len e'.len s.len t.len;
        tag = back d.tag e.tag e'.tag s.tag t.tag;
      }

  empty_back : (e e' : Descriptor) → is_empty e ≡ true → is_empty e' ≡ true → Four whole e e'
  unfolding is_empty
  empty_back e e' s t =
      let i = four_inv _ _ _ _ s in
      let x = four_inv _ _ _ _ t in
      record {
        flags = both_blank e.flags e'.flags i.0 x.0;
        offset = both_blank e.offset e'.offset i.2 x.2;
        len = both_blank e.len e'.len i.3 x.3;
        tag = both_blank e.tag e'.tag i.1 x.1;
      }

  desc_back : (C D : List ℕ) (a o : ℕ) → Four whole (descriptor_at C a) (descriptor_at D a) → a % 2 ≡ 0 → o % 2 ≡ 0 → a ≤ o → o < a + 8 → holds whole (word C o) (word D o) ≡ true
  unfolding descriptor
  desc_back C D a o f ea eo l h = go (ltb o (a + 2)) (ltb o (a + 4)) (ltb o (a + 6)) refl refl refl
    where
      at : (k : ℕ) → o ≡ a + k → holds whole (word (drop a C) k) (word (drop a D) k) ≡ true → holds whole (word C o) (word D o) ≡ true
      at k e h = rw e (rw (word_drop a C k, word_drop a D k) at h)

      go : (x y z : Bool) → ltb o (a + 2) ≡ x → ltb o (a + 4) ≡ y → ltb o (a + 6) ≡ z → holds whole (word C o) (word D o) ≡ true
      go true y z p q r = at 0 (omega (arith, ltb-true o (a + 2) p)) f.flags
      go false true z p q r = at 2 (omega (arith, ltb-false o (a + 2) p, ltb-true o (a + 4) q)) f.offset
      go false false true p q r = at 4 (omega (arith, ltb-false o (a + 4) q, ltb-true o (a + 6) r)) f.len
      go false false false p q r = at 6 (omega (arith, ltb-false o (a + 6) r)) f.tag

  module _ (src C D : List ℕ) (lc : length C ≡ length src) (ld : length D ≡ length src) where
    -- what one position that passed in both says: the same place, and the words of its descriptor and of its sector
    record Back (floor p low : ℕ) (d : Descriptor) (q q' : ℕ) : Type 0 where
      same : q' ≡ q
      even : q % 2 ≡ 0
      words : Four whole (descriptor_at C (stands p)) (descriptor_at D (stands p))
      sector : (o : ℕ) → o % 2 ≡ 0 → q ≤ o → o + 2 ≤ low → holds whole (word C o) (word D o) ≡ true

    module _ (floor p low : ℕ) (le : low ≤ length src) (ev : low % 2 ≡ 0) (d : Descriptor) (q q' : ℕ) where
      placed_back : placed true src C floor low d (descriptor_at C (stands p)) ≡ Some q → placed whole src D floor low d (descriptor_at D (stands p)) ≡ Some q' → Back floor p low d q q'
      unfolding size stands
      placed_back ok ok' = go (position true src C floor low d (descriptor_at C (stands p)) q ok) (position whole src D floor low d (descriptor_at D (stands p)) q' ok')
        where
          go : Position true src C floor low d (descriptor_at C (stands p)) q → Position whole src D floor low d (descriptor_at D (stands p)) q' → Back floor p low d q q'
          go (is_kept_there k e) (is_kept_there k' e') =
              let f = movable_inv d (length src) floor low k.movable in
              record {
                same = sym e' ∙ e;
                even = omega (arith, f.above);
                words = same_back (moved (low - size d) d) (descriptor_at C (stands p)) (descriptor_at D (stands p)) (four_there true (moved (low - size d) d) (descriptor_at C (stands p)) k.four) (four_there whole (moved (low - size d) d) (descriptor_at D (stands p)) k'.four);
                sector = λ o eo l h.
                    let i = (o - (low - size d)) / 2 in
                    let t : low - size d + 2 * ((o - (low - size d)) / 2) ≡ o = omega (arith, f.above) in
                    let r = agree_back (size d / 2) (drop d.offset src) (drop (low - size d) C) (drop (low - size d) D) k.words k'.words ((o - (low - size d)) / 2) (omega (arith, f.above)) in
                    rw (word_drop (low - size d) C (2 * ((o - (low - size d)) / 2)), word_drop (low - size d) D (2 * ((o - (low - size d)) / 2)), t) at r;
              }
          go (is_left l e) (is_left l' e') =
              record {
                same = sym e' ∙ e;
                even = omega arith;
                words = empty_back (descriptor_at C (stands p)) (descriptor_at D (stands p)) l.empty l'.empty;
                sector = λ o eo l h. absurd (omega arith);
              }
          go (is_kept_there k e) (is_left l' e') = cc
          go (is_left l e) (is_kept_there k' e') = cc

    copy_back : (n k p low : ℕ) → p + k ≡ n → stands n ≤ length src → low ≤ length src → low % 2 ≡ 0
        → copy_from true src C (stands n) k p low ≡ true → copy_from whole src D (stands n) k p low ≡ true
        → (o : ℕ) → o % 2 ≡ 0 → stands p ≤ o → o + 2 ≤ low → holds whole (word C o) (word D o) ≡ true
    unfolding copy_from past stands
    copy_back n zero p low pk pl le ev ok ok' o eo l h =
        let t : low - stands n ≡ 2 * ((low - stands n) / 2) = omega arith in
        let k = (low - stands n) / 2 in
        let i = (o - stands n) / 2 in
        let u : stands n + 2 * ((o - stands n) / 2) ≡ o = omega arith in
        let a : erased (take (2 * ((low - stands n) / 2)) (drop (stands n) C)) ≡ true = rw t at ok in
        let b : erased (take (2 * ((low - stands n) / 2)) (drop (stands n) D)) ≡ true = rw t at ok' in
        let x : word (drop (stands n) C) (2 * i) ≡ 0xFFFF = ff_word k (drop (stands n) C) a (simp length-drop (omega arith)) i (omega arith) in
        let y : word (drop (stands n) D) (2 * i) ≡ 0xFFFF = ff_word k (drop (stands n) D) b (simp length-drop (omega arith)) i (omega arith) in
        let x' : word C o ≡ 0xFFFF = ap (word C) (sym u) ∙ sym (word_drop (stands n) C (2 * i)) ∙ x in
        let y' : word D o ≡ 0xFFFF = ap (word D) (sym u) ∙ sym (word_drop (stands n) D (2 * i)) ∙ y in
        both_blank (word C o) (word D o) (eq-eqb (word C o) 0xFFFF x') (eq-eqb (word D o) 0xFFFF y')
    copy_back n (suc k) p low pk pl le ev ok ok' o eo l h =
        let i = past_inv (placed true src C (stands n) low (descriptor_at src (stands p)) (descriptor_at C (stands p))) (copy_from true src C (stands n) k (p + 1)) ok in
        let j = past_inv (placed whole src D (stands n) low (descriptor_at src (stands p)) (descriptor_at D (stands p))) (copy_from whole src D (stands n) k (p + 1)) ok' in
        let b = placed_back (stands n) p low le ev (descriptor_at src (stands p)) i.lies j.lies i.there j.there in
        let j' : copy_from whole src D (stands n) k (p + 1) i.lies ≡ true = rw b.same at j.rest in
        let m = placed_low true src C (stands n) low (descriptor_at src (stands p)) (descriptor_at C (stands p)) i.lies i.there in
        pick3 i.lies b.even b.words b.sector (λ x y z. copy_back n k (p + 1) i.lies (omega arith) pl (omega arith) b.even i.rest j' o eo x y) (ltb o (stands p + 8)) (ltb o i.lies) refl refl
      where
        pick3 : (q : ℕ) → q % 2 ≡ 0 → Four whole (descriptor_at C (stands p)) (descriptor_at D (stands p))
            → ((o : ℕ) → o % 2 ≡ 0 → q ≤ o → o + 2 ≤ low → holds whole (word C o) (word D o) ≡ true)
            → (stands (p + 1) ≤ o → o + 2 ≤ q → Bool → holds whole (word C o) (word D o) ≡ true)
            → (x y : Bool) → ltb o (stands p + 8) ≡ x → ltb o q ≡ y → holds whole (word C o) (word D o) ≡ true
        pick3 q eq f s rec true y u v = desc_back C D (stands p) o f (omega arith) eo l (ltb-true o (stands p + 8) u)
        pick3 q eq f s rec false true u v = rec (omega (arith, ltb-false o (stands p + 8) u)) (omega (arith, ltb-true o q v)) true
        pick3 q eq f s rec false false u v = s o eo (ltb-false o q v) h

  -- THE LAW: C is a complete copy of src and D passes: each word of D from byte 4 on is C's, or where not all need be, FFFF
  pub stood : (src C D : List ℕ) → length C ≡ length src → length D ≡ length src → 16 ≤ length src → length src % 2 ≡ 0
      → is_copy true src C ≡ true → is_copy whole src D ≡ true
      → (o : ℕ) → 4 ≤ o → o % 2 ≡ 0 → o + 2 ≤ length src → holds whole (word C o) (word D o) ≡ true
  unfolding is_copy stands
  stood src C D lc ld large ev ok ok' o lo eo ho =
      let n = (room_of (length src) src).n in
      let i = and_inv (is_plain C) (copy_from true src C (stands (room_of (length src) src).n) (room_of (length src) src).n 0 (length src)) ok in
      let j = and_inv (is_plain D) (copy_from whole src D (stands (room_of (length src) src).n) (room_of (length src) src).n 0 (length src)) ok' in
      let h : stands (room_of (length src) src).n ≤ length src = (room_in_lem (length src) src large).n in
      go i.0 j.0 (λ l. copy_back src C D lc ld n n 0 (length src) (omega arith) (omega arith) (omega arith) ev i.1 j.1 o eo l ho) (ltb o 16) refl
    where
      go : erased (take 12 (drop 4 C)) ≡ true → erased (take 12 (drop 4 D)) ≡ true → (16 ≤ o → holds whole (word C o) (word D o) ≡ true) → (x : Bool) → ltb o 16 ≡ x
          → holds whole (word C o) (word D o) ≡ true
      go a b rec true e =
          let q : o < 16 = ltb-true o 16 e in
          let u : 4 + 2 * ((o - 4) / 2) ≡ o = omega arith in
          let x : word (drop 4 C) (2 * ((o - 4) / 2)) ≡ 0xFFFF = ff_word 6 (drop 4 C) a (simp length-drop (omega arith)) ((o - 4) / 2) (omega arith) in
          let y : word (drop 4 D) (2 * ((o - 4) / 2)) ≡ 0xFFFF = ff_word 6 (drop 4 D) b (simp length-drop (omega arith)) ((o - 4) / 2) (omega arith) in
          let x' : word C o ≡ 0xFFFF = ap (word C) (sym u) ∙ sym (word_drop 4 C (2 * ((o - 4) / 2))) ∙ x in
          let y' : word D o ≡ 0xFFFF = ap (word D) (sym u) ∙ sym (word_drop 4 D (2 * ((o - 4) / 2))) ∙ y in
          both_blank (word C o) (word D o) (eq-eqb (word C o) 0xFFFF x') (eq-eqb (word D o) 0xFFFF y')
      go a b rec false e = rec (ltb-false o 16 e)
