-- The stream compared in place says what the reader's definitions say of the copy built: complete, and being made.
use Prim.Native.Nat.{ℕ, zero, suc, ◌+◌, ◌*◌, ◌-◌, ◌/◌, ◌%◌, ◌≤◌, ◌<◌}
use Rattle.std.proofs.Common.{arith, ◌∙◌, ext_get_or}
use Rattle.std.specs.Prelude.{◌≡◌, Bool, not, ◌&&◌, ◌||◌, Some, List, ◌∷◌, eqb, length, get_or, take, drop, replicate}
use Rattle.std.proofs.Math.Path.{refl, sym, ap}
use Rattle.std.proofs.Math.Bool.{true, false, cond}
use borrow.Author.Tests.{le-leb, leb-true, eqb-true, eqb-false}
use Rattle.std.proofs.Math.Dec.{leb}
use Rattle.std.proofs.Math.ListN.{length-drop, length-replicate}
use Rattle.std.proofs.lemmas.List.{get_or-replicate}
use Rattle.std.proofs.Math.Seq.{get_or-drop}
use Rattle.rules.specs.Lists.{all}
use Rattle.rules.specs.Flash.{Bytes, word, erased, program, programs, made, finish}
use Rattle.rules.specs.Unit
use Rattle.rules.specs.Unit.{Descriptor, stands, size, is_home}
use Rattle.rules.specs.Copy.{is_kept, packed, copies, kept_size, due, fill, copy_of, is_movable, is_copyable}
use Rattle.rules.specs.Sound.{is_within, is_same, is_complete}
use Rattle.laws.specs.Complete.{complete_same, is_plain}
use Rattle.laws.specs.Rooms.{home_parts}
use Rattle.laws.specs.Words.{word_drop, word_same, AreBytes, same_eq, bytes_erased}
use Rattle.laws.specs.Tests.{and_inv}
use Rattle.rules.specs.declared.Geometry.{Geometry}
use Rattle.unit.specs.Shapes.{descriptor_at, room_of, table, array_of}
use Rattle.unit.specs.Tests.{same, no}
use Rattle.unit.specs.Laws.{room_in_lem, next_place}
use Rattle.unit.specs.BridgeRoom.{room_gives, array_is}
use Rattle.copy.specs.Stream.{holds, movable, placed, past, copy_from, is_copy}
use Rattle.copy.specs.Within.{within, holds_true, holds_same, holds_blank, movable_inv, Position, is_kept_there, is_left, position, past_inv, placed_low}
use Rattle.copy.specs.Stood.{stood}
use Rattle.copy.specs.Written.{WordsWritten, program_word, free_erased}
use Rattle.copy.specs.Filled.{Filled, filled}
use Rattle.copy.specs.Compared.{within_from, within_back, same_from, bytes_of_lem}
use Rattle.copy.specs.Small.{small_made, small_finish}
use Rattle.copy.specs.Volume.{volume, all_in}

-- a unit of the geometry
pub record ByteUnit (g : Geometry) (u : Bytes) : Type 0 where
  pub long : length u ≡ g.size
  pub small : AreBytes u
  pub large : 16 ≤ g.size
  pub fits : g.size ≤ 4096
  pub even : g.size % 2 ≡ 0

module _ (g : Geometry) (src : Bytes) (w : ByteUnit g src) where
  abbrev count : ℕ
  count = (room_of g.size src).n

  in_unit : stands count ≤ g.size
  in_unit = (room_in_lem g.size src w.large).n

  -- ---- the copying steps leave a complete copy
  module _ (L : ℕ) (h_l : L < 65536) (can : is_copyable g src ≡ true) where
    abbrev start : Bytes
    start = made (program 0 L) (replicate g.size 255)

    begun : WordsWritten (replicate g.size 255) start 0 1 (λ (i : ℕ). L)
    begun =
        program_word (replicate g.size 255) 0 L (rw (length-replicate {A = ℕ} g.size 255) (omega (arith, w.large))) h_l
        (λ i x y. get_or-replicate g.size i 255 0 (omega (arith, w.large)))

    movables : (all (is_movable g) (array_of count src) ≡ true) × (stands count + kept_size (array_of count src) ≤ g.size)
    unfolding is_copyable
    movables =
        let i = and_inv (all (is_movable g) (Unit.room_of g src).array) (leb (stands (Unit.n (Unit.room_of g src)) + kept_size (Unit.room_of g src).array) g.size) can in
        (rw (array_is g src) i.0, rw (array_is g src, (room_gives g src).n) (leb-true (stands (Unit.n (Unit.room_of g src)) + kept_size (Unit.room_of g src).array) g.size i.1))

    blank_after : (i : ℕ) → 2 ≤ i → i < g.size → get_or start i 0 ≡ 255
    blank_after i a b = begun.after i (omega arith) ∙ get_or-replicate g.size i 255 0 b

    abbrev ended : Bytes
    ended = finish (copies 0 src 16 (array_of count src) (packed g.size (array_of count src))) start

    full : Filled g src w.long w.small w.fits count in_unit start count 0 g.size ended
    unfolding stands array_of
    full =
        filled g src w.long w.small w.fits count in_unit count 0 g.size start (omega arith) (omega arith) w.even
        (begun.long ∙ length-replicate {A = ℕ} g.size 255) (λ i x y. blank_after i (omega arith) y) movables.0 movables.1

    copy_ended : copy_of g L src ≡ ended
    unfolding copy_of due programs fill finish
    copy_ended = rw (array_is g src)

    pub record Complete (c : Bytes) : Type 0 where
      pub long : length c ≡ g.size
      pub small : AreBytes c
      pub copy : is_copy true src c ≡ true
      pub number : word c 0 ≡ L

    pub complete : Complete (copy_of g L src)
    unfolding stands is_copy
    complete =
        rw copy_ended (record {
          long = full.long;
          small = small_finish (copies 0 src 16 (array_of count src) (packed g.size (array_of count src))) start
              (small_made (program 0 L) (replicate g.size 255) (bytes_erased g.size));
          copy = rw (w.long, head) full.copy;
          number = word_same ended start 0 0 (full.before 0 (omega arith)) (full.before 1 (omega arith)) ∙ begun.there 0 (omega arith);
        })
      where
        head : erased (take 12 (drop 4 ended)) ≡ true
        head =
            free_erased 12 (drop 4 ended)
            (λ i x y. get_or-drop 4 ended i 0 ∙ full.before (4 + i) (omega arith) ∙ blank_after (4 + i) (omega arith) (omega (arith, w.large)))
            (simp length-drop (omega (arith, full.long, w.large)))

  -- ---- what passes as a copy says that there can be one
  movable_back : (d : Descriptor) (floor low : ℕ) → movable d g.size floor low ≡ true → is_movable g d ≡ true
  unfolding movable is_movable
  movable_back d floor low e = let i = and_inv (leb d.len 256 && eqb (d.offset % 2) 0 && leb (d.offset + size d) g.size) (leb (floor + size d) low) e in
      rw i.0 (go (is_kept d))
    where
      go : (k : Bool) → (not k || true) ≡ true
      go true = refl
      go false = refl

  not_kept_movable : (d : Descriptor) → is_kept d ≡ false → is_movable g d ≡ true
  unfolding is_movable
  not_kept_movable d e = rw e

  -- one position that passes: its sector can be moved, and low falls by it
  record PositionPasses (d : Descriptor) (floor low o : ℕ) : Type 0 where
    moves : is_movable g d ≡ true
    falls : o + cond (is_kept d) (size d) 0 ≡ low
    room : floor ≤ o

  passed : (whole : Bool) (dst : Bytes) (floor low : ℕ) (d e : Descriptor) → floor ≤ low → low ≤ g.size
      → (o : ℕ) → placed whole src dst floor low d e ≡ Some o → PositionPasses d floor low o
  passed whole dst floor low d e hf hl o ok = go (position whole src dst floor low d e o ok)
    where
      go : Position whole src dst floor low d e o → PositionPasses d floor low o
      go (is_kept_there k q) =
          let f = movable_inv d (length src) floor low k.movable in
          record { moves = movable_back d floor low (rw w.long at k.movable); falls = rw k.kept (omega (arith, f.above)); room = omega (arith, f.above) }
      go (is_left l q) = record { moves = not_kept_movable d l.left; falls = rw l.left (omega arith); room = omega arith }

  abbrev rest : ℕ → ℕ → List Descriptor
  rest k p = table k (drop (stands p) src)

  rest_cons : (k p : ℕ) → rest (suc k) p ≡ descriptor_at src (stands p) ∷ rest k (p + 1)
  unfolding table
  rest_cons k p = rw (next_place src p)

  first_rest : rest count 0 ≡ array_of count src
  unfolding array_of stands
  first_rest = refl

  copyable_none : (n p low : ℕ) → stands n ≤ low → (all (is_movable g) (rest 0 p) ≡ true) × (stands n + kept_size (rest 0 p) ≤ low)
  unfolding table all kept_size
  copyable_none n p low h = (refl, omega arith)

  copyable_one : (d : Descriptor) (ds : List Descriptor) (floor low o : ℕ) → PositionPasses d floor low o → (all (is_movable g) ds ≡ true) × (floor + kept_size ds ≤ o)
      → (all (is_movable g) (d ∷ ds) ≡ true) × (floor + kept_size (d ∷ ds) ≤ low)
  unfolding all kept_size
  copyable_one d ds floor low o t r = (rw (t.moves, all) r.0, omega (arith, t.falls, r.1))

  copyable_from : (whole : Bool) (dst : Bytes) (n k p low : ℕ) → stands n ≤ low → low ≤ g.size → copy_from whole src dst (stands n) k p low ≡ true
      → (all (is_movable g) (rest k p) ≡ true) × (stands n + kept_size (rest k p) ≤ low)
  unfolding copy_from past
  copyable_from whole dst n zero p low hf hl ok = copyable_none n p low hf
  copyable_from whole dst n (suc k) p low hf hl ok =
      let i = past_inv (placed whole src dst (stands n) low (descriptor_at src (stands p)) (descriptor_at dst (stands p))) (copy_from whole src dst (stands n) k (p + 1)) ok in
      let t = passed whole dst (stands n) low (descriptor_at src (stands p)) (descriptor_at dst (stands p)) hf hl i.lies i.there in
      let l = placed_low whole src dst (stands n) low (descriptor_at src (stands p)) (descriptor_at dst (stands p)) i.lies i.there in
      rw (rest_cons k p) (copyable_one (descriptor_at src (stands p)) (rest k (p + 1)) (stands n) low i.lies t (copyable_from whole dst n k (p + 1) i.lies t.room (omega arith) i.rest))

  from_parts : all (is_movable g) (array_of count src) ≡ true → stands count + kept_size (array_of count src) ≤ g.size → is_copyable g src ≡ true
  unfolding is_copyable
  from_parts a b =
      rw (← (room_gives g src).n, ← array_is g src, a) (le-leb (stands count + kept_size (array_of count src)) g.size b)

  pub copyable_back : (whole : Bool) (dst : Bytes) → is_copy whole src dst ≡ true → is_copyable g src ≡ true
  unfolding is_copy
  copyable_back whole dst ok =
      let i = and_inv (is_plain dst) (copy_from whole src dst (stands count) count 0 g.size) (rw w.long at ok) in
      whole_array (copyable_from whole dst count count 0 g.size in_unit (omega arith) i.1)
    where
      whole_array : (all (is_movable g) (rest count 0) ≡ true) × (stands count + kept_size (rest count 0) ≤ g.size) → is_copyable g src ≡ true
      whole_array r = from_parts (rw first_rest at r.0) (rw first_rest at r.1)

  pub header_back : (whole : Bool) (dst : Bytes) → is_copy whole src dst ≡ true → is_plain dst ≡ true
  unfolding is_copy
  header_back whole dst ok = (and_inv (is_plain dst) _ ok).0

  -- ---- a home's sectors can be copied
  pub home_copyable : is_home g src (Unit.room_of g src) ≡ true → is_copyable g src ≡ true
  unfolding is_copyable
  home_copyable h =
      let r = Unit.room_of g src in
      let p = home_parts g src (Unit.room_of g src) h in
      let k = all_in g (stands (Unit.n r)) r.array p.placed in
      let l : stands (Unit.n r) ≤ g.size = rw (← (room_gives g src).n) in_unit in
      rw k.1 (le-leb (stands (Unit.n r) + kept_size r.array) g.size (volume (stands (Unit.n r)) g.size r.array l k.0 p.apart))

module _ (g : Geometry) (src : Bytes) (w : ByteUnit g src) (u : Bytes) (v : ByteUnit g u) (L : ℕ) (h_l : L < 65536) where
  abbrev c : Bytes
  c = copy_of g L src

  -- each word from byte 4 on
  abbrev WordsAgree : Bool → Type 0
  WordsAgree whole = (o : ℕ) → 4 ≤ o → o % 2 ≡ 0 → o + 2 ≤ g.size → holds whole (word c o) (word u o) ≡ true

  module _ (can : is_copyable g src ≡ true) where
    abbrev t : Complete g src w L h_l can c
    t = complete g src w L h_l can

    to_words : (whole : Bool) → is_copy whole src u ≡ true → WordsAgree whole
    to_words whole ok o a b d =
        stood whole src c u (t.long ∙ sym w.long) (v.long ∙ sym w.long) (rw w.long w.large) (rw w.long w.even)
        t.copy ok o a b (rw w.long d)

    of_words : (whole : Bool) → WordsAgree whole → is_copy whole src u ≡ true
    of_words whole h =
        within whole src c u (t.long ∙ sym w.long) (v.long ∙ sym w.long) v.small (rw w.long w.large) (rw w.long w.even)
        (λ o a b d. h o a b (rw w.long at d)) t.copy

    same_words : is_copy true src u ≡ true → is_same (drop 4 u) (drop 4 c) ≡ true
    same_words ok =
        same_from (drop 4 u) (drop 4 c)
        (ext_get_or 0 (drop 4 u) (drop 4 c) (simp length-drop (omega (arith, v.long, t.long)))
        (λ i l. get_or-drop 4 u i 0 ∙ byte (4 + i) (omega arith) (omega (arith, v.long, simp length-drop at l)) ∙ sym (get_or-drop 4 c i 0)))
      where
        byte : (i : ℕ) → 4 ≤ i → i < g.size → get_or u i 0 ≡ get_or c i 0
        byte i a b = go (eqb (i % 2) 0) refl
          where
            go : (x : Bool) → eqb (i % 2) 0 ≡ x → get_or u i 0 ≡ get_or c i 0
            go true e =
                let z : i % 2 ≡ 0 = eqb-true (i % 2) 0 e in
                (bytes_of_lem u c i v.small t.small (holds_true (word c i) (word u i) (to_words true ok i a z (omega (arith, w.even))))).0
            go false e =
                let z : i % 2 ≡ 0 → ⊥ = eqb-false (i % 2) 0 e in
                let n : i % 2 ≡ 1 = odd (i % 2) (omega arith) z in
                let o : i - 1 + 1 ≡ i = omega arith in
                rw o at (bytes_of_lem u c (i - 1) v.small t.small (holds_true (word c (i - 1)) (word u (i - 1)) (to_words true ok (i - 1) (omega arith) (omega arith) (omega (arith, w.even))))).1
              where
                odd : (x : ℕ) → x < 2 → (x ≡ 0 → ⊥) → x ≡ 1
                odd zero h n = absurd (n refl)
                odd (suc zero) h n = refl
                odd (suc (suc x)) h n = absurd (omega arith)

    words_same : is_same (drop 4 u) (drop 4 c) ≡ true → is_copy true src u ≡ true
    words_same ok =
        of_words true (λ o a b d.
        let e : drop 4 u ≡ drop 4 c = same_eq (drop 4 u) (drop 4 c) ok in
        let z : 4 + (o - 4) ≡ o = omega arith in
        let q : word u (4 + (o - 4)) ≡ word c (4 + (o - 4)) = sym (word_drop 4 u (o - 4)) ∙ ap (λ (x : Bytes). word x (o - 4)) e ∙ word_drop 4 c (o - 4) in
        holds_same true (word c o) (word u o) (rw z at q))

    made_there : word u 0 ≡ L → word u 2 ≡ 0xFFFF → is_copy false src u ≡ true → is_within u c ≡ true
    made_there number state ok = within_from (g.size / 2) u c (omega (arith, v.long, w.even)) v.small t.small each
      where
        each : (i : ℕ) → i < g.size / 2 → holds false (word c (2 * i)) (word u (2 * i)) ≡ true
        each zero l = holds_same false (word c 0) (word u 0) (number ∙ sym t.number)
        each (suc zero) l = holds_blank (word c 2) (word u 2) state
        each (suc (suc i)) l = to_words false ok (2 * suc (suc i)) (omega arith) (omega arith) (omega (arith, w.even))

    made_back : is_within u c ≡ true → is_copy false src u ≡ true
    made_back ok =
        of_words false (λ o a b d.
        let z : 2 * (o / 2) ≡ o = omega arith in
        rw z at (within_back (g.size / 2) u c (omega (arith, v.long, w.even)) v.small t.small ok (o / 2) (omega arith)))

  pub complete_law : is_copy true src u ≡ is_complete g L src u
  unfolding is_complete
  complete_law = go (is_copyable g src) refl
    where
      go : (x : Bool) → is_copyable g src ≡ x → is_copy true src u ≡ is_complete g L src u
      go false e =
          same (is_copy true src u) false (λ ok. sym e ∙ copyable_back g src w true u ok) no
          ∙ sym (ap (λ (b : Bool). b && is_within (take 12 (drop 4 u)) (drop 4 c) && is_same (drop 16 u) (drop 16 c)) e)
      go true e =
          let z : Complete g src w L h_l e (copy_of g L src) = complete g src w L h_l e in
          same (is_copy true src u) (is_same (drop 4 u) (drop 4 c)) (same_words e) (words_same e)
          ∙ sym (complete_same g L src u (omega (arith, v.long, v.large)) (omega (arith, z.long, v.large)) (header_back g src w true (copy_of g L src) z.copy)
          ∙ ap (λ (b : Bool). b && is_same (drop 4 u) (drop 4 c)) e)

  pub made_law : is_copyable g src ≡ true → word u 0 ≡ L → word u 2 ≡ 0xFFFF → is_copy false src u ≡ is_within u c
  made_law e number state = same (is_copy false src u) (is_within u c) (made_there e number state) (made_back e)
