-- How long a text is that is put: a number in decimal, and a line of a key and a number.
use Rattle.std.specs.Prelude.{◌≡◌, Bool, true, false, cond, [], ◌∷◌, ◌++◌, ℕ, zero, suc, ◌+◌, ◌/◌, ◌%◌, ◌^◌, ◌≤◌, ◌<◌, ltb, length}
use Rattle.std.proofs.Common.{refl, ap, ◌∙◌, arith, lt-ltb, le-ltb, ltb-false, length-append}
use Rattle.std.proofs.Math.Decide.{dec_lt}
use Rattle.rules.specs.Flash.{Bytes}
use Rattle.rules.specs.Text.{digits, decimal}

digits_same : (j k m : ℕ) → m < j → m < k → digits j m ≡ digits k m
unfolding digits
digits_same zero k m a b = absurd (omega arith)
digits_same (suc j) zero m a b = absurd (omega arith)
digits_same (suc j) (suc k) m a b = go (ltb m 10) refl (λ x y. digits_same j k (m / 10) x y)
  where
    go : (t : Bool) → ltb m 10 ≡ t → (m / 10 < j → m / 10 < k → digits j (m / 10) ≡ digits k (m / 10))
        → cond t ((48 + m) ∷ []) (digits j (m / 10) ++ ((48 + m % 10) ∷ [])) ≡ cond t ((48 + m) ∷ []) (digits k (m / 10) ++ ((48 + m % 10) ∷ []))
    go true e f = refl
    go false e f =
        let l : 10 ≤ m = ltb-false m 10 e in
        ap (λ (x : Bytes). x ++ ((48 + m % 10) ∷ [])) (f (omega arith) (omega arith))

pub decimal_one : (m : ℕ) → m < 10 → decimal m ≡ (48 + m) ∷ []
unfolding decimal digits
decimal_one m h = rw (lt-ltb m 10 h)

pub decimal_more : (m : ℕ) → 10 ≤ m → decimal m ≡ decimal (m / 10) ++ ((48 + m % 10) ∷ [])
unfolding decimal digits
decimal_more m h =
    rw (le-ltb m 10 h) (ap (λ (x : Bytes). x ++ ((48 + m % 10) ∷ [])) (digits_same m (suc (m / 10)) (m / 10) (omega arith) (omega arith)))

pub decimal_longer : (m : ℕ) → 10 ≤ m → length (decimal m) ≡ length (decimal (m / 10)) + 1
decimal_longer m h = ap length (decimal_more m h) ∙ length-append (decimal (m / 10)) ((48 + m % 10) ∷ [])

-- It has at least one digit.
pub decimal_some : (m : ℕ) → 0 < length (decimal m)
decimal_some m = go (dec_lt m 10)
  where
    go : Dec (m < 10) → 0 < length (decimal m)
    go (yes h) = rw (decimal_one m h) (omega arith)
    go (no h) =
        let t : 10 ≤ m = omega arith in
        omega (arith, decimal_longer m t)

pub keyed_long : (key x : Bytes) → length (key ++ (x ++ (10 ∷ []))) ≡ length key + length x + 1
keyed_long key x = omega (arith, length-append key (x ++ (10 ∷ [])), length-append x (10 ∷ []))

-- A number below 10 to the k has at most k digits.
pub decimal_within : (k m : ℕ) → m < 10 ^ suc k → length (decimal m) ≤ suc k
decimal_within zero m h = rw (decimal_one m (omega arith)) (omega arith)
decimal_within (suc k) m h = go (dec_lt m 10) (λ l. decimal_within k (m / 10) l)
  where
    go : Dec (m < 10) → (m / 10 < 10 ^ suc k → length (decimal (m / 10)) ≤ suc k) → length (decimal m) ≤ suc (suc k)
    go (yes l) f = rw (decimal_one m l) (omega arith)
    go (no l) f =
        let t : 10 ≤ m = omega arith in
        omega (arith, decimal_longer m t, f (omega arith))

-- A number below 100,000 has at most five digits.
pub decimal_short : (m : ℕ) → m < 100000 → length (decimal m) ≤ 5
decimal_short m h = decimal_within 4 m h
