-- A line's bytes, by places in the line.
use Rattle.std.specs.Prelude.{◌≡◌, refl, Option, Some, None, SomeIff, is_some, Bool, true, false, ◌&&◌, [], ◌∷◌, ◌++◌, ℕ, zero, suc, ◌+◌, ◌-◌, ◌*◌, ◌%◌, ◌≤◌, ◌<◌, length, get_or, take, drop}
use Rattle.std.proofs.Common.{sym, ap, ◌∙◌, add-one, arith, length-drop, get_or-drop, take-suc, take_all}
use borrow.Author.Tests.{lt-ltb, le-ltb}
use Rattle.std.specs.Char.{digit_value, is_ascii_hexdigit}
use Rattle.std.specs.List.{list_all}
use Rattle.std.proofs.lemmas.Bool.{and_right, false≢true}
use Rattle.std.proofs.lemmas.Bool.Decides.{nat_tests}
use Rattle.std.proofs.lemmas.List.Recursion.{and_at}
use Rattle.rules.specs.Flash.{Bytes}
use Rattle.rules.specs.Lists.{all}
use Rattle.rules.specs.Text.{is_digit}
use Rattle.hex_lines.specs.Writes.{digits_of}
use Rattle.hex_lines.specs.Records.{value, is_hex, bytes_of, record_bytes, sum}

-- ---- a digit's value
module _ (c : ℕ) where
  pub value_digit : 48 ≤ c → c < 58 → value c ≡ c - 48
  unfolding value is_digit
  value_digit h k = grind (arith, nat_tests)

  pub value_upper : 65 ≤ c → c < 71 → value c ≡ c - 55
  unfolding value is_digit
  value_upper h k = grind (arith, nat_tests)

  pub value_lower : 97 ≤ c → c < 103 → value c ≡ c - 87
  unfolding value is_digit
  value_lower h k = grind (arith, nat_tests)

-- What `to_digit` gives is a hex digit's value.
pub value_given : (c : ℕ) → digit_value c < 16 → value c ≡ digit_value c
unfolding value is_digit
value_given c h = grind (arith, nat_tests)

pub value_none : (c : ℕ) → 16 ≤ digit_value c → value c ≡ 16
unfolding value is_digit
value_none c h = grind (arith, nat_tests)

-- ---- bytes
unfoldable pub pair_of : ℕ → ℕ → ℕ
pair_of a b = 16 * value a + value b

pub bytes_at : (s : Bytes) (k : ℕ) → 2 * k + 1 < length s → get_or (bytes_of s) k 0 ≡ pair_of (get_or s (2 * k) 0) (get_or s (2 * k + 1) 0)
unfolding bytes_of pair_of
bytes_at [] k h = absurd (omega arith)
bytes_at (a ∷ []) k h = absurd (omega arith)
bytes_at (a ∷ (b ∷ s)) zero h = refl
bytes_at (a ∷ (b ∷ s)) (suc k) h =
    let e : 2 * suc k ≡ suc (suc (2 * k)) = omega arith in
    let f : 2 * suc k + 1 ≡ suc (suc (2 * k + 1)) = omega arith in
    bytes_at s k (omega arith) ∙ rw (f, e)

pub byte_there : (l : Bytes) (k : ℕ) → 2 * k + 2 < length l → pair_of (get_or l (2 * k + 1) 0) (get_or l (2 * k + 1 + 1) 0) ≡ get_or (record_bytes l) k 0
unfolding record_bytes
byte_there l k h =
    let n : 1 + 2 * k ≡ 2 * k + 1 = omega arith in
    let m : 1 + (2 * k + 1) ≡ 2 * k + 1 + 1 = omega arith in
    let e : get_or (drop 1 l) (2 * k) 0 ≡ get_or l (2 * k + 1) 0 = get_or-drop 1 l (2 * k) 0 ∙ ap (λ (j : ℕ). get_or l j 0) n in
    let f : get_or (drop 1 l) (2 * k + 1) 0 ≡ get_or l (2 * k + 1 + 1) 0 = get_or-drop 1 l (2 * k + 1) 0 ∙ ap (λ (j : ℕ). get_or l j 0) m in
    sym (bytes_at (drop 1 l) k (omega (arith, length-drop 1 l)) ∙ ap (λ (x : ℕ). pair_of x (get_or (drop 1 l) (2 * k + 1) 0)) e ∙ ap (pair_of (get_or l (2 * k + 1) 0)) f)

-- ---- all digits
ascii_hex : (c : ℕ) → is_ascii_hexdigit c ≡ is_hex c
unfolding is_hex value is_digit
ascii_hex c = grind (arith, nat_tests)

pub all_ascii : (s : Bytes) → list_all is_ascii_hexdigit s ≡ all is_hex s
unfolding all
all_ascii [] = refl
all_ascii (c ∷ s) = rw (ascii_hex c, all_ascii s) (go (is_hex c))
  where
    go : (b : Bool) → b && all is_hex s ≡ (elim b as (λ j. Bool) [ true ↦ all is_hex s | false ↦ false ])
    go true = refl
    go false = refl

pub hex_at : (s : Bytes) (k : ℕ) → all is_hex s ≡ true → k < length s → is_hex (get_or s k 0) ≡ true
unfolding all
hex_at s k h l = and_at (all is_hex) is_hex refl step s k 0 l h
  where
    step : (x : ℕ) (xs : Bytes) → all is_hex (x ∷ xs) ≡ (is_hex x && all is_hex xs)
    step x xs = go (is_hex x)
      where
        go : (b : Bool) → (elim b as (λ j. Bool) [ true ↦ all is_hex xs | false ↦ false ]) ≡ (b && all is_hex xs)
        go true = refl
        go false = refl

-- ---- two digits, as `to_digit` gives them
hex_given : (c : ℕ) → digit_value c < 16 → is_hex c ≡ true
unfolding is_hex
hex_given c h = lt-ltb (value c) 16 (omega (arith, value_given c h))

hex_none : (c : ℕ) → (digit_value c < 16 → ⊥) → is_hex c ≡ false
unfolding is_hex
hex_none c h = le-ltb (value c) 16 (omega (arith, value_none c (omega arith)))

module _ (a b : ℕ) where
  pub not_high : (digit_value a < 16 → ⊥) → is_hex a && is_hex b ≡ true → ⊥
  not_high h = rw (hex_none a h) false≢true

  pub not_low : (digit_value b < 16 → ⊥) → is_hex a && is_hex b ≡ true → ⊥
  not_low h = rw (hex_none b h, and_right (is_hex a) false refl) false≢true

  pub pair_given : (x y : ℕ) → (digit_value a < 16) × (x ≡ digit_value a) → (digit_value b < 16) × (y ≡ digit_value b) → (is_hex a && is_hex b ≡ true) × (16 * x + y ≡ pair_of a b)
  unfolding pair_of
  pair_given x y h k = (rw (hex_given a h.0, hex_given b k.0), omega (arith, h.1, k.1, value_given a h.0, value_given b k.0))

pub some_given : {P : Type 0} (o : Option ℕ) (v : ℕ) → SomeIff o P v → P → is_some o ≡ true
some_given None v h p = absurd (h p)
some_given (Some x) v h p = refl

-- ---- the sum, byte by byte
pub sum_append : (xs : Bytes) (y : ℕ) → sum (xs ++ (y ∷ [])) ≡ sum xs + y
unfolding sum
sum_append [] y = omega arith
sum_append (x ∷ xs) y = omega (arith, sum_append xs y)

pub sum_turn : (xs : Bytes) (k t b : ℕ) → k < length xs → t ≡ sum (take k xs) % 256 → b ≡ get_or xs k 0 → (t + b) % 256 ≡ sum (take (k + 1) xs) % 256
sum_turn xs k t b h e f =
    let s : sum (take (k + 1) xs) ≡ sum (take k xs) + get_or xs k 0 = ap sum (ap (λ (j : ℕ). take j xs) (add-one k) ∙ take-suc xs k 0 h) ∙ sum_append (take k xs) (get_or xs k 0) in
    omega arith

pub sum_end : (xs : Bytes) (k t : ℕ) → length xs ≤ k → t ≡ sum (take k xs) % 256 → t ≡ sum xs % 256
sum_end xs k t h e = e ∙ ap (λ (r : Bytes). sum r % 256) (take_all k xs h)

-- ---- bytes as digits
pub digits_long : (xs : Bytes) → length (digits_of xs) ≡ 2 * length xs
unfolding digits_of
digits_long [] = refl
digits_long (x ∷ xs) = omega (arith, digits_long xs)
