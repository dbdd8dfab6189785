-- The hash and the digits, byte by byte; and how long a line can be.
use Rattle.std.specs.Prelude.{◌≡◌, refl, Bool, true, false, cond, [], ◌∷◌, ◌++◌, ℕ, suc, ◌+◌, ◌-◌, ◌*◌, ◌/◌, ◌%◌, ◌≤◌, ◌<◌, ltb, length, get_or, take, drop}
use Rattle.std.proofs.Common.{ap, ◌∙◌, append_assoc, append-nil, add-one, arith, drop-cons, drop_of_length-le, length-take, length-drop}
use Rattle.rules.specs.Flash.{Bytes}
use Rattle.rules.specs.Text.{decimal}
use Rattle.rules.specs.Answers.{Answer, given}
use Rattle.text.specs.Put.{decimal_within}
use Rattle.call_read.specs.Shapes.{part_of}
use Rattle.script_answers.specs.Result.{hash_from, glyph_of, hex_of, content_text}

-- ---- the hash
module _ (s : Bytes) (h i : ℕ) where
  pub hash_end : length s ≤ i → hash_from h (drop i s) ≡ h
  unfolding hash_from
  hash_end k = rw (drop_of_length-le s k)

  pub hash_turn : i < length s → hash_from ((h * 257 + get_or s i 0 + 1) % 4294967291) (drop (i + 1) s) ≡ hash_from h (drop i s)
  unfolding hash_from
  hash_turn l = rw (add-one i, drop-cons s i 0 l, hash_from)

-- ---- digits
hex_long : (s : Bytes) → length (hex_of s) ≡ 2 * length s
unfolding hex_of
hex_long [] = refl
hex_long (b ∷ s) = let e = hex_long s in omega arith

pub hex_turn : (out s : Bytes) (i x y : ℕ) → i < length s → x ≡ glyph_of (get_or s i 0 / 16) → y ≡ glyph_of (get_or s i 0 % 16)
    → ((out ++ (x ∷ [])) ++ (y ∷ [])) ++ hex_of (drop (i + 1) s) ≡ out ++ hex_of (drop i s)
unfolding hex_of
hex_turn out s i x y l p q =
    let e : hex_of (drop i s) ≡ x ∷ (y ∷ hex_of (drop (suc i) s)) = rw (drop-cons s i 0 l, hex_of, p, q) refl in
    rw (add-one i, e, append_assoc, append_assoc) refl

pub hex_end : (out s : Bytes) (i : ℕ) → length s ≤ i → out ++ hex_of (drop i s) ≡ out
unfolding hex_of
hex_end out s i l = rw (drop_of_length-le s l, hex_of) (append-nil out)

-- ---- a content
pub content_none : (x : Bytes) → length x ≡ 0 → content_text x ≡ 45 ∷ []
unfolding content_text
content_none [] h = refl
content_none (b ∷ x) h = absurd (omega arith)

pub content_some : (x : Bytes) → (length x ≡ 0 → ⊥) → content_text x ≡ hex_of x
unfolding content_text
content_some [] h = absurd (h refl)
content_some (b ∷ x) h = refl

pub content_long : (x : Bytes) → length (content_text x) ≤ 2 * length x + 1
unfolding content_text
content_long [] = omega arith
content_long (b ∷ x) = omega (arith, hex_long (b ∷ x))

-- A number has at most 20 digits.
pub decimal_long : (m : ℕ) → m < 18446744073709551616 → length (decimal m) ≤ 20
decimal_long m h = decimal_within 19 m (omega arith)

-- A part of an image is not longer than it.
part_long : (s : Bytes) (a m : ℕ) → length (part_of s a m) ≤ length s
unfolding part_of
part_long s a m = go (ltb (length s) a) (ltb (length s - a) m)
  where
    go : (x y : Bool) → length (cond x [] (cond y [] (take m (drop a s)))) ≤ length s
    go true y = omega arith
    go false true = omega arith
    go false false = simp (length-take, length-drop) (omega arith)

-- An answer's content is not longer than the image.
pub part_short : (x s : Bytes) (a : Answer) → x ≡ part_of s (given a).start (given a).len → length x ≤ length s
part_short x s a e = rw e (part_long s (given a).start (given a).len)

-- ---- four texts put one behind the other
pub put_four : (o a b c d : Bytes) → (((o ++ a) ++ b) ++ c) ++ d ≡ o ++ (((a ++ b) ++ c) ++ d)
put_four o a b c d = ap (λ (x : Bytes). x ++ d) (ap (λ (x : Bytes). x ++ c) (append_assoc o a b) ∙ append_assoc o (a ++ b) c) ∙ append_assoc o ((a ++ b) ++ c) d
