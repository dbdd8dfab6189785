-- Marks as bits: bit a % 8 of byte a / 8.
use Rattle.std.specs.Prelude.{◌≡◌, refl, List, [], ◌∷◌, ◌++◌, ℕ, zero, suc, ◌+◌, ◌*◌, ◌/◌, ◌%◌, ◌^◌, ◌<◌, eqb, length, get_or, set, replicate}
use Rattle.std.proofs.Common.{sym, ap, ap₂, ◌∙◌, one-mul, arith, shl_exact, get_or-append-add}
use Rattle.std.proofs.Math.Nat.{div-div-eq-div-mul, pow-succ', zero-mul}
use Rattle.std.specs.Int.Bits.{bit_or, or_step, or_zero_r}
use Rattle.std.proofs.lemmas.Nat.{pow_pos}
use Rattle.std.proofs.lemmas.Nat.Bits.{and_pow}
use lib.Bits.{bit_and}
use borrow.Author.Tests.{ne_eqb}
use Rattle.std.proofs.Math.Dec.{eqb-suc-zero}
use Rattle.std.proofs.lemmas.Nat.{or_shr}
use Rattle.std.proofs.lemmas.List.{get_or-replicate, set-append_left, replicate-append-replicate}
use Rattle.std.proofs.Math.ListN.{get_or-append}

-- the n lowest bits of a number, the lowest first
unfoldable pub bits : ℕ → ℕ → List ℕ
bits zero m = []
bits (suc n) m = m % 2 ∷ bits n (m / 2)

-- eight of each byte
unfoldable pub bits_of : List ℕ → List ℕ
bits_of [] = []
bits_of (m ∷ ms) = bits 8 m ++ bits_of ms

-- ---- the bits of one number
bit_at : (n m k : ℕ) → k < n → get_or (bits n m) k 0 ≡ m / 2 ^ k % 2
unfolding bits
bit_at zero m k h = absurd (omega arith)
bit_at (suc n) m zero h = omega arith
bit_at (suc n) m (suc k) h = rw (pow-succ' 2 k, ← div-div-eq-div-mul m 2 (2 ^ k)) (bit_at n (m / 2) k (omega arith))

bit_set : (n m k : ℕ) → k < n → bits n (bit_or m (2 ^ k)) ≡ set (bits n m) k 1
unfolding bits
bit_set zero m k h = absurd (omega arith)
bit_set (suc n) m zero h =
    let one : bit_or m 1 % 2 ≡ 1 = omega (arith, or_step m 1) in
    let rest : bit_or m 1 / 2 ≡ m / 2 = or_shr m 1 1 ∙ or_zero_r (m / 2) in
    ap₂ (λ (x y : ℕ). x ∷ bits n y) one rest
bit_set (suc n) m (suc k) h =
    let half : 2 ^ suc k / 2 ≡ 2 ^ k = omega (arith, pow-succ' 2 k) in
    let low : bit_or m (2 ^ suc k) % 2 ≡ m % 2 = omega (arith, or_step m (2 ^ suc k), pow-succ' 2 k) in
    let rest : bit_or m (2 ^ suc k) / 2 ≡ bit_or (m / 2) (2 ^ k) = or_shr m (2 ^ suc k) 1 ∙ ap (bit_or (m / 2)) half in
    ap₂ (λ (x y : ℕ). x ∷ bits n y) low rest ∙ ap (λ (r : List ℕ). m % 2 ∷ r) (bit_set n (m / 2) k (omega arith))

-- ---- those of all bytes: bit k of byte j
set_behind : (xs ys : List ℕ) (n v : ℕ) → set (xs ++ ys) (length xs + n) v ≡ xs ++ set ys n v
set_behind [] ys n v =
    let z : 0 + n ≡ n = omega arith in
    rw z
set_behind (x ∷ xs) ys n v =
    let z : suc (length xs) + n ≡ suc (length xs + n) = omega arith in
    rw z (ap (λ (r : List ℕ). x ∷ r) (set_behind xs ys n v))

bits_at : (ms : List ℕ) (j k : ℕ) → k < 8 → get_or (bits_of ms) (j * 8 + k) 0 ≡ get_or ms j 0 / 2 ^ k % 2
unfolding bits_of bits
bits_at [] j k h = sym (get_or-replicate 8 k 0 0 h) ∙ bit_at 8 0 k h
bits_at (m ∷ ms) zero k h =
    let z : 0 * 8 + k ≡ k = omega arith in
    rw z (get_or-append (bits 8 m) (bits_of ms) 0 k h ∙ bit_at 8 m k h)
bits_at (m ∷ ms) (suc j) k h =
    let z : suc j * 8 + k ≡ 8 + (j * 8 + k) = omega arith in
    rw z (get_or-append-add (bits 8 m) (bits_of ms) (j * 8 + k) 0 ∙ bits_at ms j k h)

bits_set : (ms : List ℕ) (j k : ℕ) → k < 8 → bits_of (set ms j (bit_or (get_or ms j 0) (2 ^ k))) ≡ set (bits_of ms) (j * 8 + k) 1
unfolding bits_of bits
bits_set [] j k h = refl
bits_set (m ∷ ms) zero k h =
    let z : 0 * 8 + k ≡ k = omega arith in
    rw z (ap (λ (r : List ℕ). r ++ bits_of ms) (bit_set 8 m k h) ∙ sym (set-append_left (bits 8 m) (bits_of ms) k 1 h))
bits_set (m ∷ ms) (suc j) k h =
    let z : suc j * 8 + k ≡ 8 + (j * 8 + k) = omega arith in
    rw z (ap (λ (r : List ℕ). bits 8 m ++ r) (bits_set ms j k h) ∙ sym (set_behind (bits 8 m) (bits_of ms) (j * 8 + k) 1))

times_zero : (b m : ℕ) → 0 < m → eqb (b * m) 0 ≡ eqb b 0
times_zero zero m h = rw (zero-mul m)
times_zero (suc b) m h =
    let e : suc b * m ≡ b * m + m = omega arith in
    rw (ne_eqb (suc b * m) 0 (λ q. omega arith), eqb-suc-zero b)

module _ (ms : List ℕ) (a : ℕ) where
  split : a / 8 * 8 + a % 8 ≡ a
  split = omega arith

  byte_at : get_or ms (a / 8) 0 / 2 ^ (a % 8) % 2 ≡ get_or (bits_of ms) a 0
  byte_at = sym (bits_at ms (a / 8) (a % 8) (omega arith)) ∙ ap (λ (i : ℕ). get_or (bits_of ms) i 0) split

  one_shifted : 1 * 2 ^ (a % 8) % 2 ^ 8 ≡ 2 ^ (a % 8)
  one_shifted = shl_exact {a = 1} 1 (a % 8) 8 (omega arith) (omega arith) ∙ one-mul (2 ^ (a % 8))

  -- THE LAWS: what a bit is, and that setting one leaves the others
  pub tested : eqb (bit_and (get_or ms (a / 8) 0) (1 * 2 ^ (a % 8) % 2 ^ 8)) 0 ≡ eqb (get_or (bits_of ms) a 0) 0
  tested = rw (one_shifted, and_pow (get_or ms (a / 8) 0) (a % 8), byte_at) (times_zero (get_or (bits_of ms) a 0) (2 ^ (a % 8)) (pow_pos (a % 8)))

  pub marking : bits_of (set ms (a / 8) (bit_or (get_or ms (a / 8) 0) (1 * 2 ^ (a % 8) % 2 ^ 8))) ≡ set (bits_of ms) a 1
  marking = rw one_shifted (bits_set ms (a / 8) (a % 8) (omega arith) ∙ ap (λ (i : ℕ). set (bits_of ms) i 1) split)

-- No mark is set in bytes that are 0.
pub bits_none : (n : ℕ) → bits_of (replicate n 0) ≡ replicate (8 * n) 0
unfolding bits_of bits
bits_none zero = refl
bits_none (suc n) =
    let e : 8 + 8 * n ≡ 8 * suc n = omega arith in
    ap (λ (r : List ℕ). replicate {A = ℕ} 8 0 ++ r) (bits_none n) ∙ replicate-append-replicate {A = ℕ} 8 (8 * n) 0 ∙ ap (λ (j : ℕ). replicate {A = ℕ} j 0) e
