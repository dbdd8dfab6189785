-- What a turn of each loop over a word does.
use Rattle.std.specs.Prelude.{◌≡◌, refl, Bool, true, false, cond, Option, Some, None, [], ◌∷◌, ◌++◌, ℕ, ◌+◌, ◌-◌, ◌*◌, ◌≤◌, ◌<◌, get_or, length, set, take, drop}
use Rattle.std.proofs.Common.{◌∙◌, add-one, arith, drop_of_length-le, drop-cons, take-suc-set}
use borrow.Author.Tests.{eq-eqb, ne_eqb, lt-ltb, le-ltb}
use Rattle.rules.specs.Flash.{Bytes}
use Rattle.rules.specs.Text.{is_digit}
use Rattle.script.specs.Words.{value_from, bounded, number_of, nibble_of, bytes_from, content_of}

-- ---- numbers
-- A number only grows.
value_grows : (m : ℕ) (s : Bytes) (v : ℕ) → value_from m s ≡ Some v → m ≤ v
unfolding value_from
value_grows m [] v e = let z : m ≡ v = cc in omega arith
value_grows m (c ∷ s) v e = go (is_digit c) e (λ q. value_grows (10 * m + (c - 48)) s v q)
  where
    go : (b : Bool) → cond b (value_from (10 * m + (c - 48)) s) None ≡ Some v
        → (value_from (10 * m + (c - 48)) s ≡ Some v → 10 * m + (c - 48) ≤ v) → m ≤ v
    go true e f = omega (arith, f e)
    go false e f = absurd (cc)

-- One that is over already is out of range.
pub value_over : (m : ℕ) (s : Bytes) → 4294967295 < m → bounded (value_from m s) ≡ None
unfolding bounded
value_over m s h = go (value_from m s) (λ v e. value_grows m s v e)
  where
    go : (o : Option ℕ) → ((v : ℕ) → o ≡ Some v → m ≤ v) → bounded o ≡ None
    go None f = refl
    go (Some v) f = rw (lt-ltb 4294967295 v (omega (arith, f v refl)))

pub number_none : (s : Bytes) → length s ≡ 0 → number_of s ≡ None
unfolding number_of
number_none [] h = refl
number_none (c ∷ s) h = absurd (omega arith)

pub number_some : (s : Bytes) → 0 < length s → number_of s ≡ bounded (value_from 0 s)
unfolding number_of
number_some [] h = absurd (omega arith)
number_some (c ∷ s) h = refl

module _ (s : Bytes) (m i : ℕ) where
  pub value_end : length s ≤ i → m ≤ 4294967295 → bounded (value_from m (drop i s)) ≡ Some m
  unfolding value_from bounded
  value_end h k = rw (drop_of_length-le s h, le-ltb 4294967295 m k)

  module _ (l : i < length s) where
    pub value_other : is_digit (get_or s i 0) ≡ false → bounded (value_from m (drop i s)) ≡ None
    unfolding value_from bounded
    value_other e = rw (drop-cons s i 0 l, value_from, e)

    pub value_digit : is_digit (get_or s i 0) ≡ true → value_from m (drop i s) ≡ value_from (10 * m + (get_or s i 0 - 48)) (drop (i + 1) s)
    unfolding value_from
    value_digit e = rw (add-one i, drop-cons s i 0 l, value_from, e)

-- ---- contents
pub bytes_end : (x r : Bytes) → length r ≡ 0 → bytes_from x r ≡ Some x
unfolding bytes_from
bytes_end x [] h = refl
bytes_end x (c ∷ r) h = absurd (omega arith)

pub bytes_odd : (x r : Bytes) → length r ≡ 1 → bytes_from x r ≡ None
unfolding bytes_from
bytes_odd x [] h = absurd (omega arith)
bytes_odd x (c ∷ []) h = refl
bytes_odd x (c ∷ d ∷ r) h = absurd (omega arith)

-- A pair p comes off the front.
pair_off : (x r p s : Bytes) → length p ≡ 2 → r ≡ p ++ s → bytes_from x r ≡ bytes_from x (get_or p 0 0 ∷ get_or p 1 0 ∷ s)
pair_off x r [] s h e = absurd (omega arith)
pair_off x r (a ∷ []) s h e = absurd (omega arith)
pair_off x r (a ∷ b ∷ []) s h e = rw e
pair_off x r (a ∷ b ∷ c ∷ p) s h e = absurd (omega arith)

module _ (x r p s : Bytes) (h : length p ≡ 2) (e : r ≡ p ++ s) where
  pub bytes_high : nibble_of (get_or p 0 0) ≡ None → bytes_from x r ≡ None
  unfolding bytes_from
  bytes_high n = pair_off x r p s h e ∙ rw (bytes_from, n)

  module _ (v : ℕ) (m : nibble_of (get_or p 0 0) ≡ Some v) where
    pub bytes_low : nibble_of (get_or p 1 0) ≡ None → bytes_from x r ≡ None
    unfolding bytes_from
    bytes_low n = pair_off x r p s h e ∙ rw (bytes_from, m, n)

    pub bytes_more : (w : ℕ) → nibble_of (get_or p 1 0) ≡ Some w → bytes_from x r ≡ bytes_from (x ++ ((16 * v + w) ∷ [])) s
    unfolding bytes_from
    bytes_more w n = pair_off x r p s h e ∙ rw (bytes_from, m, n)

-- One byte more in the buffer.
pub bytes_turn : (t r p s : Bytes) (n v w : ℕ) → n < length t → length p ≡ 2 → r ≡ p ++ s → nibble_of (get_or p 0 0) ≡ Some v → nibble_of (get_or p 1 0) ≡ Some w
    → bytes_from (take n t) r ≡ bytes_from (take (n + 1) (set t n (16 * v + w))) s
bytes_turn t r p s n v w l h e a b = rw (add-one n, take-suc-set t n (16 * v + w) l) (bytes_more (take n t) r p s h e v a w b)

pub content_none : (s : Bytes) → length s < 1 → content_of s ≡ None
unfolding content_of
content_none [] h = refl
content_none (c ∷ s) h = absurd (omega arith)

pub content_dash : (s : Bytes) → 1 ≤ length s → length s < 2 → get_or s 0 0 ≡ 45 → content_of s ≡ Some []
unfolding content_of
content_dash [] h k e = absurd (omega arith)
content_dash (c ∷ []) h k e = rw (eq-eqb c 45 e)
content_dash (c ∷ d ∷ s) h k e = absurd (omega arith)

pub content_long : (s : Bytes) → 2048 < length s → content_of s ≡ None
unfolding content_of
content_long [] h = absurd (omega arith)
content_long (c ∷ []) h = absurd (omega arith)
content_long (c ∷ d ∷ s) h = rw (lt-ltb 2048 (length (c ∷ d ∷ s)) h)

pub content_bytes : (s : Bytes) → 1 ≤ length s → length s ≤ 2048 → (length s < 2 → get_or s 0 0 ≡ 45 → ⊥) → content_of s ≡ bytes_from [] s
unfolding content_of bytes_from
content_bytes [] h k n = absurd (omega arith)
content_bytes (c ∷ []) h k n = rw (ne_eqb c 45 (n (omega arith)))
content_bytes (c ∷ d ∷ s) h k n = rw (le-ltb 2048 (length (c ∷ d ∷ s)) k)

-- What a turn of each loop needs.
pub ruleset numbers = (number_none, number_some, value_end, value_other, value_digit, value_over)

pub ruleset pairs = (bytes_end, bytes_odd, bytes_high, bytes_low, bytes_turn)

pub ruleset contents = (content_none, content_dash, content_long, content_bytes)
