-- What a line of an input tells.
use Rattle.std.specs.Prelude.{◌≡◌, Bool, [], ◌∷◌, eqb, length, take, drop, cond, MatchOption, Option as Maybe}
use Rattle.std.specs.Cmp.Lexicographic.{pointwise}
use Rattle.std.proofs.Math.Path.{refl, ap}
use Rattle.std.proofs.Common.{◌∙◌, arith, get_or}
use Rattle.std.proofs.lemmas.List.{at_drop_more}
use Rattle.std.proofs.Math.Bool.{true, false}
use Rattle.std.proofs.Math.Option.{Option, none, some}
use Prim.Native.Nat.{ℕ, ◌+◌, ◌-◌, ◌*◌, ◌≤◌, ◌<◌}
use Rattle.std.proofs.lemmas.Bool.Decides.{nat_tests}
use Rattle.rules.specs.Flash.{Bytes}
use Rattle.rules.specs.Text.{behind, Parsed, is_digit, number_from, number_of, line}
use Rattle.rules.specs.declared.Geometry.{Geometry}

-- The number v is up to 65,536, and with the rest behind it the one of `o`.
pub record Said (o : Option Parsed) (rest : Bytes) (v : ℕ) : Type 0 where
  pub small : v ≤ 65536
  pub is : o ≡ some (record { value = v; rest = rest })

-- What is told is the number of `o`, and the rest behind it; or `o` has none up to 65,536.
abbrev pub Says : Option Parsed → Maybe ℕ → Bytes → Type 0
Says o r rest = MatchOption r ((p : Parsed) → o ≡ some p → 65536 < p.value) (Said o rest)

-- Two lines of s say the geometry, with numbers up to 65,536, and the rest stands behind them.
pub record HasLines (s rest : Bytes) (g : Geometry) : Type 0 where
  pub second : Bytes
  pub small : g.size ≤ 65536
  pub few : g.units ≤ 65536
  pub size : line "unit=" s ≡ some (record { value = g.size; rest = second })
  pub units : line "units=" second ≡ some (record { value = g.units; rest = rest })

-- What two lines of s say, or that they do not say two numbers up to 65,536.
abbrev pub Heads : Bytes → Maybe Geometry → Bytes → Type 0
Heads s r rest = MatchOption r ((p q : Parsed) → line "unit=" s ≡ some p → line "units=" p.rest ≡ some q → p.value ≤ 65536 → 65536 < q.value) (HasLines s rest)

-- What stands behind a key is what `strip_prefix` finds.
pub behind_is : (key s : Bytes) → behind key s ≡ cond (pointwise eqb (take (length key) s) key) (some (drop (length key) s)) none
unfolding behind
behind_is [] s = refl
behind_is (b ∷ key) [] = refl
behind_is (b ∷ key) (c ∷ s) = let e = behind_is key s in grind (arith, nat_tests)

-- A number only grows.
pub number_grows : (m : ℕ) (s : Bytes) (p : Parsed) → number_from m s ≡ some p → m ≤ p.value
unfolding number_from
number_grows m [] p e = let z : ◌≡◌ {A = ℕ} 0 1 = cc in absurd (omega arith)
number_grows m (c ∷ s) p e = go (eqb c 10) (is_digit c) e (λ q. number_grows (10 * m + (c - 48)) s p q)
  where
    go : (a b : Bool)
        → (elim a as (λ j. Option Parsed) [
          | true ↦ some (record { value = m; rest = s })
          | false ↦ elim b as (λ j. Option Parsed) [ true ↦ number_from (10 * m + (c - 48)) s | false ↦ none ]
        ]) ≡ some p
        → (number_from (10 * m + (c - 48)) s ≡ some p → 10 * m + (c - 48) ≤ p.value) → m ≤ p.value
    go true b e f = let z : record { value = m; rest = s } ≡ p = cc in omega (arith, ap (λ (x : Parsed). x.value) z)
    go false true e f = omega (arith, f e)
    go false false e f = let z : ◌≡◌ {A = ℕ} 0 1 = cc in absurd (omega arith)

-- It ends at a line feed.
pub from_feed : (m : ℕ) (s : Bytes) (i : ℕ) → i < length s → get_or s i 0 ≡ 10 → number_from m (drop i s) ≡ some (record { value = m; rest = drop (i + 1) s })
unfolding number_from
from_feed m s i l e = at_drop_more (number_from m) s i 0 l ∙ rw e

-- The first digit is not 0.
pub of_digit : (s : Bytes) → 0 < length s → 48 < get_or s 0 0 → get_or s 0 0 < 58 → number_of s ≡ number_from 0 s
unfolding number_of is_digit
of_digit [] l a b = absurd (omega arith)
of_digit (c ∷ s) l a b = grind (arith, nat_tests)

pub of_other : (s : Bytes) → (0 < length s → 49 ≤ get_or s 0 0 → get_or s 0 0 < 58 → ⊥) → number_of s ≡ none
unfolding number_of is_digit
of_other [] h = refl
of_other (c ∷ s) h = let l = h (omega arith) in grind (arith, nat_tests)
