-- The longest input that is no refusal has 65,555 bytes, so a program need not read more than one byte beyond.
use Rattle.std.specs.Prelude.{◌≡◌, refl, Bool, true, false, ◌&&◌, [], ◌∷◌, ℕ, zero, suc, ◌+◌, ◌-◌, ◌*◌, ◌≤◌, ◌<◌, eqb, ltb, length, take}
use Rattle.std.proofs.Common.{sym, ap, ◌∙◌, arith, eqb-true, ltb-true, length-take-le, take_all}
use Rattle.std.proofs.Math.Option.{Option, none, some}
use Prim.Native.String.{String}
use Rattle.std.proofs.Math.Decide.{dec_le}
use Rattle.rules.specs.Flash.{Bytes, is_geometry}
use Rattle.rules.specs.declared.NotDone.TheVariants.{BadGeometry}
use Rattle.rules.specs.Text.{text, behind, Parsed, is_digit, number_from, number_of, number_in, line}
use Rattle.rules.specs.Listing.{refused_line, listed, listed_as, listed_with, listing}
use Rattle.laws.specs.Units.{right_geometry}
use Rattle.laws.specs.Tests.{and_inv}
use Rattle.text.specs.Says.{number_grows}
use Rattle.listing_text.specs.Looks.{listed_outside}

-- ---- a line's length, by its number
-- m with k digits 0 behind it
unfoldable grown : ℕ → ℕ → ℕ
grown zero m = m
grown (suc k) m = grown k (10 * m)

grown_more : (k a b : ℕ) → a ≤ b → grown k a ≤ grown k b
unfolding grown
grown_more zero a b h = h
grown_more (suc k) a b h = grown_more k (10 * a) (10 * b) (omega arith)

-- behind the first digits, m, of a number below m·10^k stand less than k more, and the line feed
digits_few : (k m : ℕ) (s : Bytes) (p : Parsed) → number_from m s ≡ some p → p.value < grown k m → length s ≤ length p.rest + k
unfolding number_from grown
digits_few k m [] p e h = let z : ◌≡◌ {A = ℕ} 0 1 = cc in absurd (omega arith)
digits_few k m (c ∷ s) p e h = go (eqb c 10) (is_digit c) e k h (λ j q l. digits_few j (10 * m + (c - 48)) s p q l)
  where
    more : ℕ
    more = 10 * m + (c - 48)

    go : (a b : Bool)
        → (elim a as (λ j. Option Parsed) [
          | true ↦ some (record { value = m; rest = s })
          | false ↦ elim b as (λ j. Option Parsed) [ true ↦ number_from more s | false ↦ none ]
        ]) ≡ some p
        → (k : ℕ) → p.value < grown k m → ((j : ℕ) → number_from more s ≡ some p → p.value < grown j more → length s ≤ length p.rest + j) → suc (length s) ≤ length p.rest + k
    go true b e zero h f =
        let z : record { value = m; rest = s } ≡ p = cc in
        absurd (omega (arith, ap (λ (x : Parsed). x.value) z))
    go true b e (suc k) h f =
        let z : record { value = m; rest = s } ≡ p = cc in
        omega (arith, ap (λ (x : Parsed). length x.rest) z)
    go false true e zero h f = absurd (omega (arith, number_grows more s p e))
    go false true e (suc k) h f = omega (arith, f k e (omega (arith, grown_more k (10 * m) more (omega arith))))
    go false false e k h f = let z : ◌≡◌ {A = ℕ} 0 1 = cc in absurd (omega arith)

of_few : (k : ℕ) (s : Bytes) (p : Parsed) → number_of s ≡ some p → p.value < grown k 1 → length s ≤ length p.rest + suc k
unfolding number_of number_from
of_few k [] p e h = let z : ◌≡◌ {A = ℕ} 0 1 = cc in absurd (omega arith)
of_few k (c ∷ s) p e h = first (is_digit c && ltb 48 c) refl e
  where
    digit : (a b : Bool) → eqb c 10 ≡ a → is_digit c ≡ b → 48 < c
        → (elim a as (λ j. Option Parsed) [
          | true ↦ some (record { value = 0; rest = s })
          | false ↦ elim b as (λ j. Option Parsed) [ true ↦ number_from (10 * 0 + (c - 48)) s | false ↦ none ]
        ]) ≡ some p
        → suc (length s) ≤ length p.rest + suc k
    digit true b q r l e = absurd (omega (arith, eqb-true c 10 q))
    digit false true q r l e = omega (arith, digits_few k (10 * 0 + (c - 48)) s p e (omega (arith, grown_more k 1 (10 * 0 + (c - 48)) (omega arith))))
    digit false false q r l e = let z : ◌≡◌ {A = ℕ} 0 1 = cc in absurd (omega arith)

    first : (a : Bool) → (is_digit c && ltb 48 c) ≡ a → (elim a as (λ j. Option Parsed) [ true ↦ number_from 0 (c ∷ s) | false ↦ none ]) ≡ some p
        → suc (length s) ≤ length p.rest + suc k
    first true q e = digit (eqb c 10) (is_digit c) refl refl (ltb-true 48 c (and_inv (is_digit c) (ltb 48 c) q).1) e
    first false q e = let z : ◌≡◌ {A = ℕ} 0 1 = cc in absurd (omega arith)

behind_length : (key s r : Bytes) → behind key s ≡ some r → length s ≡ length key + length r
unfolding behind
behind_length [] s r e = let z : s ≡ r = cc in omega (arith, ap length z)
behind_length (b ∷ key) [] r e = let z : ◌≡◌ {A = ℕ} 0 1 = cc in absurd (omega arith)
behind_length (b ∷ key) (c ∷ s) r e = go (eqb b c) e (λ q. behind_length key s r q)
  where
    go : (a : Bool) → (elim a as (λ j. Option Bytes) [ true ↦ behind key s | false ↦ none ]) ≡ some r → (behind key s ≡ some r → length s ≡ length key + length r)
        → suc (length s) ≡ suc (length key) + length r
    go true e f = omega (arith, f e)
    go false e f = let z : ◌≡◌ {A = ℕ} 0 1 = cc in absurd (omega arith)

line_few : (k : ℕ) (key : String) (s : Bytes) (p : Parsed) → line key s ≡ some p → p.value < grown k 1 → length s ≤ length (text key) + suc k + length p.rest
unfolding line number_in
line_few k key s p e h = go (behind (text key) s) refl e
  where
    go : (o : Option Bytes) → behind (text key) s ≡ o → number_in o ≡ some p → length s ≤ length (text key) + suc k + length p.rest
    go none q e = let z : ◌≡◌ {A = ℕ} 0 1 = cc in absurd (omega arith)
    go (some r) q e = omega (arith, behind_length (text key) s r q, of_few k r p e h)

-- ---- the whole input
pub listing_long : (s : Bytes) → 65556 ≤ length s → refused_line BadGeometry ≡ listing s
unfolding listing listed_with listed_as text grown
listing_long s h = go (line "unit=" s) refl
  where
    image : (p q : Parsed) → line "unit=" s ≡ some p → line "units=" p.rest ≡ some q → (b : Bool) → is_geometry (record { size = p.value; units = q.value }) (length q.rest) ≡ b
        → refused_line BadGeometry ≡ listed (record { size = p.value; units = q.value }) q.rest
    image p q a b true e =
        let o = right_geometry (record { size = p.value; units = q.value }) q.rest e in
        let x = line_few 4 "unit=" s p a (omega (arith, o.small)) in
        let y = line_few 2 "units=" p.rest q b (omega (arith, o.few)) in
        absurd (omega (arith, x, y, o.whole, o.short))
    image p q a b false e = listed_outside (record { size = p.value; units = q.value }) q.rest e

    next : (p : Parsed) → line "unit=" s ≡ some p → (o : Option Parsed) → line "units=" p.rest ≡ o → refused_line BadGeometry ≡ listed_as p.value o
    next p a none b = refl
    next p a (some q) b = image p q a b (is_geometry (record { size = p.value; units = q.value }) (length q.rest)) refl

    go : (o : Option Parsed) → line "unit=" s ≡ o → refused_line BadGeometry ≡ listed_with o
    go none a = refl
    go (some p) a = next p a (line "units=" p.rest) refl

-- The first 65,556 bytes of an input list as the whole of it.
pub listing_cut : (s : Bytes) → listing (take 65556 s) ≡ listing s
listing_cut s = go (dec_le 65556 (length s))
  where
    go : Dec (65556 ≤ length s) → listing (take 65556 s) ≡ listing s
    go (yes h) = sym (listing_long (take 65556 s) (omega (arith, length-take-le 65556 s h))) ∙ listing_long s h
    go (no h) = ap listing (take_all 65556 s (omega arith))
