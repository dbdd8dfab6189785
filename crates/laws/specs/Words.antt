-- A word by its two bytes, and what a step makes of an image's words and length.
use Rattle.std.specs.Prelude.{◌≡◌, refl, ◌≢◌, Bool, true, false, List, [], ◌∷◌, ◌++◌, ℕ, zero, suc, ◌+◌, ◌-◌, ◌*◌, ◌/◌, ◌%◌, ◌≤◌, ◌<◌, set, take, replicate, eqb}
use Rattle.std.proofs.Math.Path.{sym, ap}
use Rattle.std.proofs.Common.{ap₂, ◌∙◌, true≢false, add-zero, suc-add, arith, length-append, length-take, length-drop, length-set, get_or-set_same, get_or-set_other, length-take-le}
use borrow.Author.Tests.{eqb-true, eq-eqb}
use Rattle.std.proofs.Math.ListN.{length, get_or, drop, length-replicate, get_or-append, get_or-eq_default, get_or-replicate}
use Rattle.std.proofs.Math.Seq.{get_or-drop, get_or-take, get_or-append-add}
use Rattle.std.specs.Int.Bits.{bit_and, and_zero_l}
use Rattle.std.proofs.lemmas.Nat.{and_le_l}
use Rattle.std.proofs.Math.Decide.{dec_lt}
use Rattle.rules.specs.Flash.{Bytes, word, lay, Step, program, erase, apply, idle, made}
use Rattle.rules.specs.Sound.{is_same}

-- a word is its two bytes
pub two_bytes : (w : ℕ) → w % 256 + 256 * (w / 256) ≡ w
two_bytes w = omega arith

-- ---- words and bytes
-- A word is its low byte and 256 times its high byte.
pub word_bytes : (s : Bytes) (a : ℕ) → word s a ≡ get_or s a 0 + 256 * get_or s (a + 1) 0
unfolding word
word_bytes s a = simp (get_or-drop, add-zero)

-- To lay a word is to set its low byte, then its high byte.
pub lay_bytes : (s : Bytes) (a w : ℕ) → lay s a w ≡ set (set s a (w % 256)) (a + 1) (w / 256)
unfolding lay
lay_bytes [] a w = refl
lay_bytes (x ∷ xs) zero w = refl
lay_bytes (x ∷ xs) (suc a) w =
    ap {B = List ℕ} (λ r. x ∷ r) (lay_bytes xs a w)
    ∙ ap (λ (n : ℕ). set (x ∷ set xs a (w % 256)) n (w / 256)) (sym (suc-add a 1))

-- Words of the same two bytes are equal.
pub word_same : (s t : Bytes) (a b : ℕ) → get_or s a 0 ≡ get_or t b 0 → get_or s (a + 1) 0 ≡ get_or t (b + 1) 0 → word s a ≡ word t b
word_same s t a b e f = rw (word_bytes s a, word_bytes t b, e, f)

-- A word of a part of the image.
pub word_drop : (n : ℕ) (s : Bytes) (a : ℕ) → word (drop n s) a ≡ word s (n + a)
word_drop n s a =
    word_same (drop n s) s a (n + a) (get_or-drop n s a 0) (get_or-drop n s (a + 1) 0 ∙ ap (λ (i : ℕ). get_or s i 0) more)
  where
    more : n + (a + 1) ≡ n + a + 1
    more = omega arith

-- And of a first part of it.
pub word_take : (n : ℕ) (s : Bytes) (a : ℕ) → a + 2 ≤ n → word (take n s) a ≡ word s a
word_take n s a h = word_same (take n s) s a a (get_or-take n s a 0 (omega arith)) (get_or-take n s (a + 1) 0 (omega arith))

-- Past the end of the image a word reads 0.
pub word_outside : (s : Bytes) (a : ℕ) → length s ≤ a → word s a ≡ 0
word_outside s a h = rw (word_bytes, get_or-eq_default s 0 {n = a} h, get_or-eq_default s 0 {n = a + 1} (omega arith))

-- Bytes that pass the test are the same.
pub same_eq : (x y : Bytes) → is_same x y ≡ true → x ≡ y
unfolding is_same
same_eq [] [] h = refl
same_eq [] (b ∷ y) h = absurd (true≢false (sym h))
same_eq (a ∷ x) [] h = absurd (true≢false (sym h))
same_eq (a ∷ x) (b ∷ y) h = go (eqb a b) refl h (same_eq x y)
  where
    go : (t : Bool) → eqb a b ≡ t → (elim t as (λ j. Bool) [ true ↦ is_same x y | false ↦ false ]) ≡ true → (is_same x y ≡ true → x ≡ y) → a ∷ x ≡ b ∷ y
    go true e k f = ap₂ {C = Bytes} (λ (c : ℕ) (z : Bytes). c ∷ z) (eqb-true a b e) (f k)
    go false e k f = absurd (true≢false (sym k))

-- And the other way.
pub same_self : (x : Bytes) → is_same x x ≡ true
unfolding is_same
same_self [] = refl
same_self (b ∷ x) = ap (λ (c : Bool). elim c as (λ j. Bool) [ true ↦ is_same x x | false ↦ false ]) (eq-eqb b b refl) ∙ same_self x

-- The k bytes from offset a on, as they are lent, are k.
pub part_long : (s : Bytes) (a k : ℕ) → a + k ≤ length s → length (take (a + k - a) (drop a s)) ≡ k
part_long s a k h = simp (length-take, length-drop) (omega arith)

-- ---- a laid word
-- Laying a word keeps the length.
pub length_lay : (s : Bytes) (a w : ℕ) → length (lay s a w) ≡ length s
length_lay s a w = rw lay_bytes (simp length-set)

-- Inside the image a laid word reads back.
pub word_laid : (s : Bytes) (a w : ℕ) → a + 2 ≤ length s → word (lay s a w) a ≡ w
word_laid s a w h =
    let h₀ : a < length s = omega arith in
    let h₁ : a + 1 < length (set s a (w % 256)) = simp length-set (omega arith) in
    let n : a ≢ a + 1 = omega arith in
    let low : get_or (set (set s a (w % 256)) (a + 1) (w / 256)) a 0 ≡ w % 256 =
    get_or-set_other (set s a (w % 256)) (a + 1) a (w / 256) 0 n ∙ get_or-set_same s a (w % 256) 0 h₀ in
    let high : get_or (set (set s a (w % 256)) (a + 1) (w / 256)) (a + 1) 0 ≡ w / 256 = get_or-set_same (set s a (w % 256)) (a + 1) (w / 256) 0 h₁ in
    rw (word_bytes, lay_bytes) (omega arith)

-- A byte that is neither of the laid word's two stays.
pub byte_aside : (s : Bytes) (a w i : ℕ) → i ≢ a → i ≢ a + 1 → get_or (lay s a w) i 0 ≡ get_or s i 0
byte_aside s a w i n m = rw (lay_bytes, get_or-set_other (set s a (w % 256)) (a + 1) i (w / 256) 0 m, get_or-set_other s a i (w % 256) 0 n)

-- A word that shares no byte with the laid one stays.
pub word_aside : (s : Bytes) (a w b : ℕ) → b ≢ a → b ≢ a + 1 → b + 1 ≢ a → word (lay s a w) b ≡ word s b
word_aside s a w b n m o =
    let q : b + 1 ≢ a + 1 = omega arith in
    rw (word_bytes (lay s a w) b, word_bytes s b, byte_aside s a w b n m, byte_aside s a w (b + 1) o q)

-- ---- a step
-- An erase lies inside an image of n bytes; of a program nothing is asked.
abbrev pub EraseWithin : Step → ℕ → Type 0
EraseWithin (program a v) n = Unit {0}
EraseWithin (erase a k) n = a + k ≤ n

-- A step of a job either changes nothing or is applied.
pub made_cases : (P : Bytes → Type 0) (x : Step) (s : Bytes) → (idle x s ≡ true → P s) → (idle x s ≡ false → P (apply x s)) → P (made x s)
unfolding made
made_cases P x s f g = go (idle x s) refl
  where
    go : (b : Bool) → idle x s ≡ b → P (elim b as (λ j. Bytes) [ true ↦ s | false ↦ apply x s ])
    go true e = f e
    go false e = g e

-- A step keeps the image's length.
pub length_apply : (x : Step) (s : Bytes) → EraseWithin x (length s) → length (apply x s) ≡ length s
unfolding apply
length_apply (program a v) s h = length_lay s a (bit_and (word s a) v)
length_apply (erase a k) s h =
    simp (length-append, length-take, length-drop) (omega (arith, length-replicate {A = ℕ} k 255))

-- Idle or not.
pub length_made : (x : Step) (s : Bytes) → EraseWithin x (length s) → length (made x s) ≡ length s
length_made x s h = made_cases (λ (r : Bytes). length r ≡ length s) x s (λ e. refl) (λ e. length_apply x s h)

module _ (a v : ℕ) (s : Bytes) where
  -- The new value is the old AND the given one.
  pub word_programmed : a + 2 ≤ length s → word (apply (program a v) s) a ≡ bit_and (word s a) v
  unfolding apply
  word_programmed h = word_laid s a (bit_and (word s a) v) h

  -- The same, idle or not.
  pub word_made : a + 2 ≤ length s → word (made (program a v) s) a ≡ bit_and (word s a) v
  unfolding idle
  word_made h =
      made_cases (λ (r : Bytes). word r a ≡ bit_and (word s a) v) (program a v) s
      (λ e. sym (eqb-true (bit_and (word s a) v) (word s a) e)) (λ e. word_programmed h)

  -- Every byte but the word's two stays.
  pub byte_kept : (i : ℕ) → i ≢ a → i ≢ a + 1 → get_or (apply (program a v) s) i 0 ≡ get_or s i 0
  unfolding apply
  byte_kept i n m = byte_aside s a (bit_and (word s a) v) i n m

  -- The same, idle or not.
  pub byte_made : (i : ℕ) → i ≢ a → i ≢ a + 1 → get_or (made (program a v) s) i 0 ≡ get_or s i 0
  byte_made i n m = made_cases (λ (r : Bytes). get_or r i 0 ≡ get_or s i 0) (program a v) s (λ e. refl) (λ e. byte_kept i n m)

  -- A word that shares no byte with the programmed one stays.
  pub word_kept : (b : ℕ) → b ≢ a → b ≢ a + 1 → b + 1 ≢ a → word (made (program a v) s) b ≡ word s b
  unfolding apply
  word_kept b n m o =
      made_cases (λ (r : Bytes). word r b ≡ word s b) (program a v) s (λ e. refl) (λ e. word_aside s a (bit_and (word s a) v) b n m o)

  -- Outside the image nothing can be programmed.
  pub idle_outside : length s ≤ a → idle (program a v) s ≡ true
  unfolding idle
  idle_outside h =
      let e : word s a ≡ 0 = word_outside s a h in
      eq-eqb (bit_and (word s a) v) (word s a) (ap (λ (w : ℕ). bit_and w v) e ∙ and_zero_l v ∙ sym e)

module _ (a k : ℕ) (s : Bytes) (h : a + k ≤ length s) where
  front : length (take a s) ≡ a
  front = length-take-le a s (omega arith)

  -- All bytes of an erased unit become FF.
  pub byte_erased : (i : ℕ) → i < k → get_or (apply (erase a k) s) (a + i) 0 ≡ 255
  unfolding apply
  byte_erased i l =
      ap (λ (n : ℕ). get_or (take a s ++ (replicate k 255 ++ drop (a + k) s)) (n + i) 0) (sym front)
      ∙ get_or-append-add (take a s) (replicate k 255 ++ drop (a + k) s) i 0
      ∙ get_or-append (replicate k 255) (drop (a + k) s) 0 i (omega (arith, length-replicate {A = ℕ} k 255))
      ∙ get_or-replicate k i 255 0 l

  -- Every byte before the unit stays.
  pub byte_before : (i : ℕ) → i < a → get_or (apply (erase a k) s) i 0 ≡ get_or s i 0
  unfolding apply
  byte_before i l =
      get_or-append (take a s) (replicate k 255 ++ drop (a + k) s) 0 i (omega (arith, front)) ∙ get_or-take a s i 0 l

  -- Every byte behind the unit stays.
  pub byte_behind : (i : ℕ) → a + k ≤ i → get_or (apply (erase a k) s) i 0 ≡ get_or s i 0
  unfolding apply
  byte_behind i l =
      ap (λ (n : ℕ). get_or (take a s ++ (replicate k 255 ++ drop (a + k) s)) n 0) here
      ∙ get_or-append-add (take a s) (replicate k 255 ++ drop (a + k) s) (length (replicate {A = ℕ} k 255) + (i - (a + k))) 0
      ∙ get_or-append-add (replicate k 255) (drop (a + k) s) (i - (a + k)) 0
      ∙ get_or-drop (a + k) s (i - (a + k)) 0
      ∙ ap (λ (n : ℕ). get_or s n 0) there
    where
      here : i ≡ length (take a s) + (length (replicate {A = ℕ} k 255) + (i - (a + k)))
      here = omega (arith, front, length-replicate {A = ℕ} k 255)

      there : a + k + (i - (a + k)) ≡ i
      there = omega arith

-- A byte outside an erased unit stays.
pub byte_outside : (a k : ℕ) (s : Bytes) → a + k ≤ length s → (i : ℕ) → ((x : ℕ) → a ≤ x → x < a + k → i ≢ x) → get_or (apply (erase a k) s) i 0 ≡ get_or s i 0
byte_outside a k s h i n = go (dec_lt i a)
  where
    go : Dec (i < a) → get_or (apply (erase a k) s) i 0 ≡ get_or s i 0
    go (yes l) = byte_before a k s h i l
    go (no m) = other (dec_lt i (a + k))
      where
        other : Dec (i < a + k) → get_or (apply (erase a k) s) i 0 ≡ get_or s i 0
        other (yes l) = absurd (n i (omega arith) l refl)
        other (no l) = byte_behind a k s h i (omega arith)

-- ---- bytes
-- Every byte of an image is below 256.
abbrev pub AreBytes : Bytes → Type 0
AreBytes s = (i : ℕ) → get_or s i 0 < 256

-- A word of bytes is below 65,536.
pub word_lt : (s : Bytes) → AreBytes s → (a : ℕ) → word s a < 65536
word_lt s h a = rw word_bytes (omega (arith, h a, h (a + 1)))

bytes_append : (s t : Bytes) → AreBytes s → AreBytes t → AreBytes (s ++ t)
bytes_append [] t h k i = k i
bytes_append (x ∷ s) t h k zero = h zero
bytes_append (x ∷ s) t h k (suc i) = bytes_append s t (λ j. h (suc j)) k i

pub bytes_take : (n : ℕ) (s : Bytes) → AreBytes s → AreBytes (take n s)
bytes_take zero s h i = omega arith
bytes_take (suc n) [] h i = omega arith
bytes_take (suc n) (x ∷ s) h zero = h zero
bytes_take (suc n) (x ∷ s) h (suc i) = bytes_take n s (λ j. h (suc j)) i

bytes_lay : (s : Bytes) (a w : ℕ) → w < 65536 → AreBytes s → AreBytes (lay s a w)
unfolding lay
bytes_lay [] a w l h i = h i
bytes_lay (x ∷ s) zero w l h zero = omega arith
bytes_lay (x ∷ []) zero w l h (suc i) = h (suc i)
bytes_lay (x ∷ (y ∷ s)) zero w l h (suc zero) = omega arith
bytes_lay (x ∷ (y ∷ s)) zero w l h (suc (suc i)) = h (suc (suc i))
bytes_lay (x ∷ s) (suc a) w l h zero = h zero
bytes_lay (x ∷ s) (suc a) w l h (suc i) = bytes_lay s a w l (λ j. h (suc j)) i

-- FF is a byte.
pub bytes_erased : (k : ℕ) → AreBytes (replicate k 255)
bytes_erased zero i = omega arith
bytes_erased (suc k) zero = omega arith
bytes_erased (suc k) (suc i) = bytes_erased k i

-- After a step the image still consists of bytes.
pub bytes_apply : (x : Step) (s : Bytes) → AreBytes s → AreBytes (apply x s)
unfolding apply
bytes_apply (program a v) s h = bytes_lay s a (bit_and (word s a) v) (omega (arith, and_le_l (word s a) v, word_lt s h a)) h
bytes_apply (erase a k) s h =
    bytes_append (take a s) (replicate k 255 ++ drop (a + k) s) (bytes_take a s h)
    (bytes_append (replicate k 255) (drop (a + k) s) (bytes_erased k) (λ i. rw get_or-drop (h (a + k + i))))
