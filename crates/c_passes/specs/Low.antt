-- A pass is given at a count below 126.
use Rattle.std.specs.Prelude.{◌≡◌, refl, Bool, true, false, ◌&&◌, ◌||◌, List, ℕ, ◌≤◌, ◌<◌, eqb, leb}
use Rattle.std.proofs.Common.{ap, arith, leb-true}
use Rattle.std.proofs.Math.Option.{Option, none, some}
use Rattle.std.proofs.lemmas.Bool.{eqb-false}
use Rattle.rules.specs.Flash.{Bytes}
use Rattle.rules.specs.Lists.{is_none}
use Rattle.rules.specs.Text.{Parsed, text}
use Rattle.rules.specs.Answers.{number}
use Rattle.rules.specs.Calls.{outcome, read_open}
use Rattle.rules.specs.declared.Geometry.{Geometry}
use Rattle.pass_rules.specs.Texts.{StaffList, after, line_in, register_in, value_in, within}
use Rattle.pass_rules.specs.Give.{Looked, FileRead, count_from, counted, finds, give_look, is_on, next, not_full, refuses, register_look, shut, staff_look, two_of}

within_low : (bound : ℕ) (o : Option Parsed) (p : Parsed) → within bound o ≡ some p → p.value ≤ bound
unfolding within
within_low bound none p e = let z : ◌≡◌ {A = ℕ} 0 1 = cc in absurd (omega arith)
within_low bound (some q) p e = go (leb q.value bound) refl e
  where
    go : (b : Bool) → leb q.value bound ≡ b → (elim b as (λ j. Option Parsed) [ true ↦ some q | false ↦ none ]) ≡ some p → p.value ≤ bound
    go true k e = let w : q ≡ p = cc in omega (arith, leb-true q.value bound k, ap (λ (x : Parsed). x.value) w)
    go false k e = let z : ◌≡◌ {A = ℕ} 0 1 = cc in absurd (omega arith)

value_low : (bound : ℕ) (o : Option Bytes) (p : Parsed) → value_in bound o ≡ some p → p.value ≤ bound
unfolding value_in
value_low bound none p e = let z : ◌≡◌ {A = ℕ} 0 1 = cc in absurd (omega arith)
value_low bound (some s) p e = within_low bound _ p e

pub line_low : (key : Bytes) (bound : ℕ) (s : Bytes) (p : Parsed) → line_in key bound s ≡ some p → p.value ≤ bound
unfolding line_in
line_low key bound s p e = value_low bound _ p e

pub register_low : (s : Bytes) (n : ℕ) → register_in s ≡ some n → n ≤ 126
unfolding register_in after
register_low s n e = line (line_in (text "count=") 126 s) refl e
  where
    line : (o : Option Parsed) → line_in (text "count=") 126 s ≡ o → after o (λ count rest. elim (is_none rest) as (λ j. Option ℕ) [ true ↦ some count | false ↦ none ]) ≡ some n → n ≤ 126
    line none k e = let z : ◌≡◌ {A = ℕ} 0 1 = cc in absurd (omega arith)
    line (some p) k e = end (is_none p.rest) e
      where
        end : (b : Bool) → (elim b as (λ j. Option ℕ) [ true ↦ some p.value | false ↦ none ]) ≡ some n → n ≤ 126
        end true e = let w : p.value ≡ n = cc in omega (arith, line_low (text "count=") 126 s p k)
        end false e = let z : ◌≡◌ {A = ℕ} 0 1 = cc in absurd (omega arith)

-- What a look finds has a property, if all that it can find has.
counted_low : (o : Option ℕ) (n : ℕ) → ((m : ℕ) → o ≡ some m → m ≤ 126) → counted o ≡ finds n → n ≤ 126
unfolding counted
counted_low none n f e = let z : ◌≡◌ {A = ℕ} 0 1 = cc in absurd (omega arith)
counted_low (some m) n f e = let w : m ≡ n = cc in omega (arith, f m refl)

count_low : (q : FileRead) (n : ℕ) → count_from q ≡ finds n → n ≤ 126
unfolding count_from
count_low q n e = go (eqb q.number 0) (eqb q.number 9) e
  where
    go : (a b : Bool) → (elim a as (λ j. Looked ℕ) [ true ↦ counted (register_in q.content) | false ↦ elim b as (λ j. Looked ℕ) [ true ↦ finds 0 | false ↦ refuses q.number ] ]) ≡ finds n → n ≤ 126
    go true b e = counted_low (register_in q.content) n (register_low q.content) e
    go false true e = let w : 0 ≡ n = cc in omega arith
    go false false e = let z : ◌≡◌ {A = ℕ} 0 1 = cc in absurd (omega arith)

full_low : (x : Looked ℕ) (n : ℕ) → ((m : ℕ) → x ≡ finds m → m ≤ 126) → next x not_full ≡ finds n → n < 126
unfolding next not_full
full_low (refuses r) n f e = let z : ◌≡◌ {A = ℕ} 0 1 = cc in absurd (omega arith)
full_low (finds m) n f e = go (eqb m 126) refl e
  where
    go : (b : Bool) → eqb m 126 ≡ b → (elim b as (λ j. Looked ℕ) [ true ↦ refuses 25 | false ↦ finds m ]) ≡ finds n → n < 126
    go true k e = let z : ◌≡◌ {A = ℕ} 0 1 = cc in absurd (omega arith)
    go false k e = let w : m ≡ n = cc in omega (arith, f m refl, eqb-false m 126 k)

two_low : (a b : ℕ) (people : List ℕ) (x : Looked ℕ) (n : ℕ) → (x ≡ finds n → n < 126) → two_of a b people x ≡ finds n → n < 126
unfolding two_of
two_low a b people x n f e = go (is_on a people && is_on b people) (eqb a b) e
  where
    go : (c d : Bool) → (elim c as (λ j. Looked ℕ) [ true ↦ elim d as (λ j. Looked ℕ) [ true ↦ refuses 23 | false ↦ x ] | false ↦ refuses 22 ]) ≡ finds n → n < 126
    go true true e = let z : ◌≡◌ {A = ℕ} 0 1 = cc in absurd (omega arith)
    go true false e = f e
    go false d e = let z : ◌≡◌ {A = ℕ} 0 1 = cc in absurd (omega arith)

shut_low : (m : ℕ) (x : Looked ℕ) (n : ℕ) → (x ≡ finds n → n < 126) → shut m x ≡ finds n → n < 126
unfolding shut
shut_low m x n f e = go (eqb m 7) (eqb m 0 || eqb m 9) e
  where
    go : (c d : Bool) → (elim c as (λ j. Looked ℕ) [ true ↦ x | false ↦ elim d as (λ j. Looked ℕ) [ true ↦ refuses 8 | false ↦ refuses m ] ]) ≡ finds n → n < 126
    go true d e = f e
    go false true e = let z : ◌≡◌ {A = ℕ} 0 1 = cc in absurd (omega arith)
    go false false e = let z : ◌≡◌ {A = ℕ} 0 1 = cc in absurd (omega arith)

pub give_low : (g : Geometry) (s : Bytes) (a b n : ℕ) → give_look g s a b ≡ finds n → n < 126
unfolding give_look next register_look
give_low g s a b n e = shut_low (number (outcome g (read_open 0) s).answer) _ n (λ p. go (staff_look g s) p) e
  where
    go : (k : Looked StaffList) → next k (λ l. two_of a b l.people (next (register_look g s) not_full)) ≡ finds n → n < 126
    go (refuses r) p = let z : ◌≡◌ {A = ℕ} 0 1 = cc in absurd (omega arith)
    go (finds l) p = two_low a b l.people (next (register_look g s) not_full) n (λ q. full_low (register_look g s) n (λ m w. count_low _ m w) q) p
