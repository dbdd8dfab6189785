-- Words compared are bytes compared: within a copy, and the same.
use Rattle.std.specs.Prelude.{ℕ, zero, suc, ◌+◌, ◌*◌, ◌<◌, ◌≡◌, refl, Bool, true, false, ◌&&◌, ◌||◌, [], ◌∷◌, eqb, length, get_or, drop}
use Rattle.std.proofs.Common.{arith, sym, ap, ◌∙◌, subst, eqb-true}
use Rattle.std.proofs.lemmas.Bool.{eqb-false}
use Rattle.rules.specs.Flash.{Bytes, word}
use Rattle.rules.specs.Sound.{is_within, is_same}
use Rattle.laws.specs.Words.{word_drop, word_bytes, AreBytes, same_self}
use Rattle.unit.specs.Tests.{elim_inv, when}
use Rattle.copy.specs.Stream.{holds}
use Rattle.copy.specs.Small.{small_drop}

-- two bytes stand where the copy has two
pair_holds : (a b x y : ℕ) → a < 256 → b < 256 → x < 256 → y < 256
    → ((eqb a 255 && eqb b 255) || (eqb a x && eqb b y)) ≡ holds false (x + 256 * y) (a + 256 * b)
unfolding holds
pair_holds a b x y ha hb hx hy = go (eqb a 255) (eqb b 255) (eqb a x) (eqb b y) (eqb (a + 256 * b) (x + 256 * y)) (eqb (a + 256 * b) 0xFFFF) refl refl refl refl refl refl
  where
    go : (p q r s t u : Bool) → eqb a 255 ≡ p → eqb b 255 ≡ q → eqb a x ≡ r → eqb b y ≡ s → eqb (a + 256 * b) (x + 256 * y) ≡ t → eqb (a + 256 * b) 0xFFFF ≡ u
        → ((p && q) || (r && s)) ≡ (t || u)
    go true true r s true u ep eq er es et eu = refl
    go true true r s false true ep eq er es et eu = refl
    go true true r s false false ep eq er es et eu = absurd (eqb-false (a + 256 * b) 0xFFFF eu (omega (arith, eqb-true a 255 ep, eqb-true b 255 eq)))
    go true false true true true u ep eq er es et eu = refl
    go true false true true false u ep eq er es et eu = absurd (eqb-false (a + 256 * b) (x + 256 * y) et (omega (arith, eqb-true a x er, eqb-true b y es)))
    go true false true false true u ep eq er es et eu = absurd (eqb-false b y es (omega (arith, eqb-true (a + 256 * b) (x + 256 * y) et)))
    go true false true false false true ep eq er es et eu = absurd (eqb-false b 255 eq (omega (arith, eqb-true (a + 256 * b) 0xFFFF eu)))
    go true false true false false false ep eq er es et eu = refl
    go true false false s true u ep eq er es et eu = absurd (eqb-false a x er (omega (arith, eqb-true (a + 256 * b) (x + 256 * y) et)))
    go true false false s false true ep eq er es et eu = absurd (eqb-false b 255 eq (omega (arith, eqb-true (a + 256 * b) 0xFFFF eu)))
    go true false false s false false ep eq er es et eu = refl
    go false q true true true u ep eq er es et eu = refl
    go false q true true false u ep eq er es et eu = absurd (eqb-false (a + 256 * b) (x + 256 * y) et (omega (arith, eqb-true a x er, eqb-true b y es)))
    go false q true false true u ep eq er es et eu = absurd (eqb-false b y es (omega (arith, eqb-true (a + 256 * b) (x + 256 * y) et)))
    go false q true false false true ep eq er es et eu = absurd (eqb-false a 255 ep (omega (arith, eqb-true (a + 256 * b) 0xFFFF eu)))
    go false q true false false false ep eq er es et eu = refl
    go false q false s true u ep eq er es et eu = absurd (eqb-false a x er (omega (arith, eqb-true (a + 256 * b) (x + 256 * y) et)))
    go false q false s false true ep eq er es et eu = absurd (eqb-false a 255 ep (omega (arith, eqb-true (a + 256 * b) 0xFFFF eu)))
    go false q false s false false ep eq er es et eu = refl

pub within_from : (k : ℕ) (u c : Bytes) → length u ≡ 2 * k → AreBytes u → AreBytes c → ((i : ℕ) → i < k → holds false (word c (2 * i)) (word u (2 * i)) ≡ true) → is_within u c ≡ true
unfolding is_within word
within_from zero [] c l su sc h = refl
within_from zero (a ∷ u) c l su sc h = absurd (omega arith)
within_from (suc k) [] c l su sc h = absurd (omega arith)
within_from (suc k) (a ∷ []) c l su sc h = absurd (omega arith)
within_from (suc k) (a ∷ b ∷ u) c l su sc h =
    ap (λ (x : Bool). when x (is_within u (drop 2 c))) (pair_holds a b (get_or c 0 0) (get_or c 1 0) (su 0) (su 1) (sc 0) (sc 1) ∙ h 0 (omega arith))
    ∙ within_from k u (drop 2 c) (omega arith) (λ i. su (suc (suc i))) (small_drop 2 c sc) (λ i m. later i m)
  where
    later : (i : ℕ) → i < k → holds false (word (drop 2 c) (2 * i)) (word u (2 * i)) ≡ true
    later i m =
        let e : 2 + 2 * i ≡ 2 * suc i = omega arith in
        rw (word_drop 2 c (2 * i)) (rw (← word_drop 2 (a ∷ b ∷ u) (2 * i)) at (rw (← e) at (h (suc i) (omega arith))))

pub within_back : (k : ℕ) (u c : Bytes) → length u ≡ 2 * k → AreBytes u → AreBytes c → is_within u c ≡ true → (i : ℕ) → i < k → holds false (word c (2 * i)) (word u (2 * i)) ≡ true
unfolding is_within word
within_back zero u c l su sc h i m = absurd (omega arith)
within_back (suc k) [] c l su sc h i m = absurd (omega arith)
within_back (suc k) (a ∷ []) c l su sc h i m = absurd (omega arith)
within_back (suc k) (a ∷ b ∷ u) c l su sc h zero m =
    let t = elim_inv ((eqb a 255 && eqb b 255) || (eqb a (get_or c 0 0) && eqb b (get_or c 1 0))) (is_within u (drop 2 c)) h in
    sym (pair_holds a b (get_or c 0 0) (get_or c 1 0) (su 0) (su 1) (sc 0) (sc 1)) ∙ t.0
within_back (suc k) (a ∷ b ∷ u) c l su sc h (suc i) m =
    let t = elim_inv ((eqb a 255 && eqb b 255) || (eqb a (get_or c 0 0) && eqb b (get_or c 1 0))) (is_within u (drop 2 c)) h in
    let e : 2 + 2 * i ≡ 2 * suc i = omega arith in
    let r : holds false (word (drop 2 c) (2 * i)) (word (drop 2 (a ∷ b ∷ u)) (2 * i)) ≡ true = within_back k u (drop 2 c) (omega arith) (λ j. su (suc (suc j))) (small_drop 2 c sc) t.1 i (omega arith) in
    rw (word_drop 2 c (2 * i), word_drop 2 (a ∷ b ∷ u) (2 * i), e) at r

pub same_from : (x y : Bytes) → x ≡ y → is_same x y ≡ true
same_from x y e = subst (λ (z : Bytes). is_same x z ≡ true) e (same_self x)

-- equal words are equal bytes
pub bytes_of_lem : (x y : Bytes) (o : ℕ) → AreBytes x → AreBytes y → word x o ≡ word y o → (get_or x o 0 ≡ get_or y o 0) × (get_or x (o + 1) 0 ≡ get_or y (o + 1) 0)
bytes_of_lem x y o sx sy e =
    let f : get_or x o 0 + 256 * get_or x (o + 1) 0 ≡ get_or y o 0 + 256 * get_or y (o + 1) 0 = sym (word_bytes x o) ∙ e ∙ word_bytes y o in
    (omega (arith, f, sx o, sy o, sx (o + 1), sy (o + 1)), omega (arith, f, sx o, sy o, sx (o + 1), sy (o + 1)))
