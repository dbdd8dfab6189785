-- A part lent and changed, said of the whole. `splice l a n x` is what comes back where `&mut l[a..a + n]` was lent and is left at x.
use Prim.Native.Nat.{ℕ, suc, ◌+◌, ◌/◌, ◌%◌, ◌≤◌, ◌<◌}
use native.Mathlib.Omega.{arith}
use mathlib.Core.Path.{◌≡◌, sym, ap, ◌∙◌}
use mathlib.Core.List.{[], ◌∷◌, ◌++◌}
use lib.ListN.{length, get_or, set, take, drop, replicate, length-take, length-drop, length-set, take-append-drop}
use lib.Seq.{set-append_left, get_or-take, get_or-drop, drop-drop, length-take-le}
use lib.Bits.{bit_and}
use Rattle.rules.specs.Flash.{Bytes, word, lay, program, erase, apply}
use Rattle.laws.specs.Words.{word_bytes, lay_bytes}

-- the n bytes from a
abbrev pub part : Bytes → ℕ → ℕ → Bytes
part l a n = take n (drop a l)

abbrev pub splice : Bytes → ℕ → ℕ → Bytes → Bytes
splice l a n x = take a l ++ (x ++ drop n (drop a l))

set_past : (p q : Bytes) (i v : ℕ) → p ++ set q i v ≡ set (p ++ q) (length p + i) v
set_past [] q i v =
    let e : 0 + i ≡ i = omega arith in
    rw e
set_past (x ∷ p) q i v =
    let e : suc (length p) + i ≡ suc (length p + i) = omega arith in
    rw e (ap (λ (r : Bytes). x ∷ r) (set_past p q i v))

module _ (l : Bytes) (a n : ℕ) where
  splice_id : splice l a n (part l a n) ≡ l
  splice_id = rw (take-append-drop, take-append-drop)

  -- a store in the part is a store in the whole
  splice_set : (x : Bytes) (j w : ℕ) → a ≤ length l → j < length x → splice l a n (set x j w) ≡ set (splice l a n x) (a + j) w
  splice_set x j w h k =
      ap (λ (r : Bytes). take a l ++ r) (sym (set-append_left x (drop n (drop a l)) j w k))
      ∙ set_past (take a l) (x ++ drop n (drop a l)) j w
      ∙ ap (λ (m : ℕ). set (splice l a n x) (m + j) w) (length-take-le a l h)

  pub part_length : a + n ≤ length l → length (part l a n) ≡ n
  part_length h = simp (length-take, length-drop) (omega arith)

  part_get : (i : ℕ) → i < n → get_or (part l a n) i 0 ≡ get_or l (a + i) 0
  part_get i h = rw (get_or-take, get_or-drop)

  pub part_word : (at : ℕ) → at + 2 ≤ n → word (part l a n) at ≡ word l (a + at)
  part_word at h =
      let h₀ : at < n = omega arith in
      let h₁ : at + 1 < n = omega arith in
      let e : a + at + 1 ≡ a + (at + 1) = omega arith in
      rw (word_bytes (part l a n) at, word_bytes l (a + at), part_get at, part_get (at + 1), e)

  -- a word laid in the part is one laid in the whole
  part_lay : (at w : ℕ) → a + n ≤ length l → at + 2 ≤ n → splice l a n (lay (part l a n) at w) ≡ lay l (a + at) w
  part_lay at w h k =
      let ha : a ≤ length l = omega arith in
      let h₀ : at < length (part l a n) = rw (part_length h) (omega arith) in
      let h₁ : at + 1 < length (set (part l a n) at (w % 256)) = simp length-set (rw (part_length h) (omega arith)) in
      let e : a + at + 1 ≡ a + (at + 1) = omega arith in
      ap (splice l a n) (lay_bytes (part l a n) at w)
      ∙ splice_set (set (part l a n) at (w % 256)) (at + 1) (w / 256) ha h₁
      ∙ ap (λ (s : Bytes). set s (a + (at + 1)) (w / 256)) (splice_set (part l a n) at (w % 256) ha h₀ ∙ ap (λ (s : Bytes). set s (a + at) (w % 256)) splice_id)
      ∙ rw (lay_bytes l (a + at) w, e)

  pub part_program : (at v : ℕ) → a + n ≤ length l → at + 2 ≤ n → splice l a n (apply (program at v) (part l a n)) ≡ apply (program (a + at) v) l
  unfolding apply
  part_program at v h k = part_lay at (bit_and (word (part l a n) at) v) h k ∙ rw (part_word at k)

  pub part_fill : (v : ℕ) → splice l a n (replicate n v) ≡ take a l ++ (replicate n v ++ drop (a + n) l)
  part_fill v = ap (λ (r : Bytes). take a l ++ (replicate n v ++ r)) (drop-drop n a l)

  pub part_erase : splice l a n (replicate n 255) ≡ apply (erase a n) l
  unfolding apply
  part_erase = part_fill 255
