-- A line read back is the line that was written, and the other way round.
use Rattle.std.specs.Prelude.{◌≡◌, refl, Bool, true, false, ◌&&◌, [], ◌∷◌, ◌++◌, ℕ, zero, suc, ◌+◌, ◌-◌, ◌*◌, ◌/◌, ◌%◌, ◌≤◌, ◌<◌, eqb, leb, ltb}
use Rattle.std.proofs.Common.{sym, ap, ◌∙◌, subst, append_assoc, arith, eqb-true, le-leb, leb-true, lt-ltb, ltb-true, ne_eqb}
use Rattle.std.proofs.Math.Option.{Option, none, some}
use Prim.Native.String.{String}
use Rattle.std.proofs.Math.Decide.{dec_lt}
use Rattle.std.proofs.lemmas.Bool.{eqb-false}
use Rattle.rules.specs.Flash.{Bytes}
use Rattle.rules.specs.Lists.{all}
use Rattle.rules.specs.Histories.{is_content}
use Rattle.rules.specs.Listing.{keyed}
use Rattle.rules.specs.Text.{Parsed, behind, decimal, digits, is_digit, lf, number_from, number_of, text}
use Rattle.text.specs.Put.{decimal_more, decimal_one}
use Rattle.pass_rules.specs.Texts.{line_in, value_in, within, zero_or}

-- ---- digits
one_digit : (m d : ℕ) (r : Bytes) → d < 10 → number_from m ((48 + d) ∷ r) ≡ number_from (10 * m + d) r
unfolding number_from is_digit
one_digit m d r h =
    let e : 10 * m + (48 + d - 48) ≡ 10 * m + d = omega arith in
    rw (ne_eqb (48 + d) 10 (λ x. omega arith), le-leb 48 (48 + d) (omega arith), le-leb (48 + d) 57 (omega arith), number_from) (ap (λ (n : ℕ). number_from n r) e)

from_decimal : (k v : ℕ) (r : Bytes) → v < k → number_from 0 (decimal v ++ r) ≡ number_from v r
from_decimal zero v r h = absurd (omega arith)
from_decimal (suc k) v r h = go (dec_lt v 10) (λ r l. from_decimal k (v / 10) r l)
  where
    go : Dec (v < 10) → ((r : Bytes) → v / 10 < k → number_from 0 (decimal (v / 10) ++ r) ≡ number_from (v / 10) r) → number_from 0 (decimal v ++ r) ≡ number_from v r
    go (yes l) f = ap (λ (x : Bytes). number_from 0 (x ++ r)) (decimal_one v l) ∙ one_digit 0 v r l ∙ ap (λ (n : ℕ). number_from n r) (omega arith)
    go (no l) f =
        let t : 10 ≤ v = omega arith in
        let e : 10 * (v / 10) + v % 10 ≡ v = omega arith in
        ap (λ (x : Bytes). number_from 0 (x ++ r)) (decimal_more v t)
        ∙ ap (number_from 0) (append_assoc (decimal (v / 10)) ((48 + v % 10) ∷ []) r)
        ∙ f ((48 + v % 10) ∷ r) (omega arith)
        ∙ one_digit (v / 10) (v % 10) r (omega arith)
        ∙ ap (λ (n : ℕ). number_from n r) e

-- A number above 0 begins with a digit above 0.
record Led (v : ℕ) : Type 0 where
  digit : ℕ
  rest : Bytes
  low : 1 ≤ digit
  high : digit < 10
  same : decimal v ≡ (48 + digit) ∷ rest

led : (k v : ℕ) → v < k → 1 ≤ v → Led v
led zero v h l = absurd (omega arith)
led (suc k) v h l = go (dec_lt v 10) (λ a b. led k (v / 10) a b)
  where
    go : Dec (v < 10) → (v / 10 < k → 1 ≤ v / 10 → Led (v / 10)) → Led v
    go (yes b) f = record { digit = v; rest = []; low = l; high = b; same = decimal_one v b }
    go (no b) f =
        let t : 10 ≤ v = omega arith in
        let p = f (omega arith) (omega arith) in
        record {
          digit = p.digit;
          rest = p.rest ++ ((48 + v % 10) ∷ []);
          low = p.low;
          high = p.high;
          same = decimal_more v t ∙ ap (λ (x : Bytes). x ++ ((48 + v % 10) ∷ [])) p.same;
        }

of_decimal : (v : ℕ) (r : Bytes) → 1 ≤ v → number_of (decimal v ++ r) ≡ number_from v r
unfolding number_of is_digit
of_decimal v r h =
    let p = led (suc v) v (omega arith) h in
    let e : number_of (decimal v ++ r) ≡ number_from 0 (((48 + p.digit) ∷ p.rest) ++ r) =
    ap (λ (x : Bytes). number_of (x ++ r)) p.same
    ∙ rw (le-leb 48 (48 + p.digit) (omega (arith, p.low)), le-leb (48 + p.digit) 57 (omega (arith, p.high)), lt-ltb 48 (48 + p.digit) (omega (arith, p.low)), number_of) in
    e ∙ ap (λ (x : Bytes). number_from 0 (x ++ r)) (sym p.same) ∙ from_decimal (suc v) v r (omega arith)

from_inv : (m : ℕ) (s : Bytes) (p : Parsed) → 1 ≤ m → number_from m s ≡ some p → decimal m ++ s ≡ decimal p.value ++ (lf ∷ p.rest)
unfolding number_from is_digit
from_inv m [] p l e = let z : ◌≡◌ {A = ℕ} 0 1 = cc in absurd (omega arith)
from_inv m (c ∷ s) p l e = go (eqb c lf) refl (leb 48 c) refl (leb c 57) refl e (λ a q. from_inv (10 * m + (c - 48)) s p a q)
  where
    go : (a : Bool) → eqb c lf ≡ a → (b : Bool) → leb 48 c ≡ b → (d : Bool) → leb c 57 ≡ d
        → (elim a as (λ j. Option Parsed) [
          | true ↦ some (record { value = m; rest = s })
          | false ↦ elim (b && d) as (λ j. Option Parsed) [ true ↦ number_from (10 * m + (c - 48)) s | false ↦ none ]
        ]) ≡ some p
        → (1 ≤ 10 * m + (c - 48) → number_from (10 * m + (c - 48)) s ≡ some p → decimal (10 * m + (c - 48)) ++ s ≡ decimal p.value ++ (lf ∷ p.rest))
        → decimal m ++ (c ∷ s) ≡ decimal p.value ++ (lf ∷ p.rest)
    go true h b hb d hd e f =
        let z : record { value = m; rest = s } ≡ p = cc in
        ap (λ (x : ℕ). decimal m ++ (x ∷ s)) (eqb-true c lf h) ∙ ap (λ (q : Parsed). decimal q.value ++ (lf ∷ q.rest)) z
    go false h true hb true hd e f =
        let a = leb-true 48 c hb in
        let b = leb-true c 57 hd in
        let q : (10 * m + (c - 48)) / 10 ≡ m = omega arith in
        let r : 48 + (10 * m + (c - 48)) % 10 ≡ c = omega arith in
        let w : decimal (10 * m + (c - 48)) ≡ decimal m ++ (c ∷ []) =
        decimal_more (10 * m + (c - 48)) (omega arith) ∙ ap (λ (x : ℕ). decimal x ++ ((48 + (10 * m + (c - 48)) % 10) ∷ [])) q ∙ ap (λ (x : ℕ). decimal m ++ (x ∷ [])) r in
        sym (append_assoc (decimal m) (c ∷ []) s) ∙ ap (λ (x : Bytes). x ++ s) (sym w) ∙ f (omega arith) e
    go false h true hb false hd e f = let z : ◌≡◌ {A = ℕ} 0 1 = cc in absurd (omega arith)
    go false h false hb d hd e f = let z : ◌≡◌ {A = ℕ} 0 1 = cc in absurd (omega arith)

of_inv : (s : Bytes) (p : Parsed) → number_of s ≡ some p → s ≡ decimal p.value ++ (lf ∷ p.rest)
unfolding number_of is_digit
of_inv [] p e = let z : ◌≡◌ {A = ℕ} 0 1 = cc in absurd (omega arith)
of_inv (c ∷ s) p e = go (leb 48 c) refl (leb c 57) refl (ltb 48 c) refl e
  where
    go : (a : Bool) → leb 48 c ≡ a → (b : Bool) → leb c 57 ≡ b → (d : Bool) → ltb 48 c ≡ d
        → (elim (a && b && d) as (λ j. Option Parsed) [ true ↦ number_from 0 (c ∷ s) | false ↦ none ]) ≡ some p
        → c ∷ s ≡ decimal p.value ++ (lf ∷ p.rest)
    go true ha true hb true hd e =
        let l = ltb-true 48 c hd in
        let h = leb-true c 57 hb in
        let w : 48 + (c - 48) ≡ c = omega arith in
        let v : number_from 0 (c ∷ s) ≡ number_from (c - 48) s =
        ap (λ (x : ℕ). number_from 0 (x ∷ s)) (sym w) ∙ one_digit 0 (c - 48) s (omega arith) ∙ ap (λ (x : ℕ). number_from x s) (omega arith) in
        let i = from_inv (c - 48) s p (omega arith) (sym v ∙ e) in
        ap (λ (x : ℕ). x ∷ s) (sym w) ∙ ap (λ (x : Bytes). x ++ s) (sym (decimal_one (c - 48) (omega arith))) ∙ i
    go true ha true hb false hd e = let z : ◌≡◌ {A = ℕ} 0 1 = cc in absurd (omega arith)
    go true ha false hb d hd e = let z : ◌≡◌ {A = ℕ} 0 1 = cc in absurd (omega arith)
    go false ha b hb d hd e = let z : ◌≡◌ {A = ℕ} 0 1 = cc in absurd (omega arith)

-- ---- keys
behind_self : (k r : Bytes) → behind k (k ++ r) ≡ some r
unfolding behind
behind_self [] r = refl
behind_self (b ∷ k) r = go (eqb b b) refl (behind_self k r)
  where
    go : (a : Bool) → eqb b b ≡ a → behind k (k ++ r) ≡ some r → (elim a as (λ j. Option Bytes) [ true ↦ behind k (k ++ r) | false ↦ none ]) ≡ some r
    go true h e = e
    go false h e = absurd (eqb_no h)
      where
        eqb_no : eqb b b ≡ false → ⊥
        eqb_no q = eqb-false b b q refl

pub behind_inv : (k s r : Bytes) → behind k s ≡ some r → s ≡ k ++ r
unfolding behind
behind_inv [] s r e = let z : s ≡ r = cc in z
behind_inv (b ∷ k) [] r e = let z : ◌≡◌ {A = ℕ} 0 1 = cc in absurd (omega arith)
behind_inv (b ∷ k) (c ∷ s) r e = go (eqb b c) refl e (λ q. behind_inv k s r q)
  where
    go : (a : Bool) → eqb b c ≡ a → (elim a as (λ j. Option Bytes) [ true ↦ behind k s | false ↦ none ]) ≡ some r → (behind k s ≡ some r → s ≡ k ++ r) → c ∷ s ≡ b ∷ (k ++ r)
    go true h e f = ap (λ (x : ℕ). x ∷ s) (sym (eqb-true b c h)) ∙ ap (λ (x : Bytes). b ∷ x) (f e)
    go false h e f = let z : ◌≡◌ {A = ℕ} 0 1 = cc in absurd (omega arith)

-- ---- a line
-- Read from its own text.
value_text : (bound v : ℕ) (r : Bytes) → v ≤ bound → value_in bound (some (decimal v ++ (lf ∷ r))) ≡ some (record { value = v; rest = r })
unfolding value_in within zero_or behind text number_from decimal digits
value_text bound zero r h = rw (le-leb 0 bound h, within)
value_text bound (suc v) r h = sym skip ∙ ap (within bound) num ∙ rw (le-leb (suc v) bound h, within)
  where
    p : Led (suc v)
    p = led (suc (suc v)) (suc v) (omega arith) (omega arith)

    num : number_of (decimal (suc v) ++ (lf ∷ r)) ≡ some (record { value = suc v; rest = r })
    num = of_decimal (suc v) (lf ∷ r) (omega arith)

    no_zero : behind (text "0\n") (decimal (suc v) ++ (lf ∷ r)) ≡ none
    no_zero = ap (λ (x : Bytes). behind (text "0\n") (x ++ (lf ∷ r))) p.same ∙ rw (ne_eqb 48 (48 + p.digit) (λ e. omega (arith, p.low)), behind)

    skip : within bound (number_of (decimal (suc v) ++ (lf ∷ r))) ≡ value_in bound (some (decimal (suc v) ++ (lf ∷ r)))
    skip = sym (ap (λ (o : Option Bytes). within bound (zero_or o (number_of (decimal (suc v) ++ (lf ∷ r))))) no_zero)

pub line_text : (key : String) (bound v : ℕ) (r : Bytes) → v ≤ bound → line_in (text key) bound (keyed key v ++ r) ≡ some (record { value = v; rest = r })
unfolding line_in keyed
line_text key bound v r h =
    let e : (text key ++ (decimal v ++ (lf ∷ []))) ++ r ≡ text key ++ (decimal v ++ (lf ∷ r)) =
    append_assoc (text key) (decimal v ++ (lf ∷ [])) r ∙ ap (λ (x : Bytes). text key ++ x) (append_assoc (decimal v) (lf ∷ []) r) in
    ap (λ (x : Bytes). value_in bound (behind (text key) x)) e ∙ ap (value_in bound) (behind_self (text key) (decimal v ++ (lf ∷ r))) ∙ value_text bound v r h

-- What a line is read from.
within_inv : (bound : ℕ) (o : Option Parsed) (p : Parsed) → within bound o ≡ some p → (p.value ≤ bound) × (o ≡ some p)
unfolding within
within_inv bound none p e = let z : ◌≡◌ {A = ℕ} 0 1 = cc in absurd (omega arith)
within_inv bound (some q) p e = go (leb q.value bound) refl e
  where
    go : (b : Bool) → leb q.value bound ≡ b → (elim b as (λ j. Option Parsed) [ true ↦ some q | false ↦ none ]) ≡ some p → (p.value ≤ bound) × (some q ≡ some p)
    go true k e = let w : q ≡ p = cc in (subst (λ (x : Parsed). x.value ≤ bound) w (leb-true q.value bound k), e)
    go false k e = let z : ◌≡◌ {A = ℕ} 0 1 = cc in absurd (omega arith)

value_inv : (bound : ℕ) (o : Option Bytes) (p : Parsed) → value_in bound o ≡ some p → (p.value ≤ bound) × (o ≡ some (decimal p.value ++ (lf ∷ p.rest)))
unfolding value_in zero_or decimal digits text
value_inv bound none p e = let z : ◌≡◌ {A = ℕ} 0 1 = cc in absurd (omega arith)
value_inv bound (some s) p e = go (behind (text "0\n") s) refl e
  where
    go : (o : Option Bytes) → behind (text "0\n") s ≡ o → within bound (zero_or o (number_of s)) ≡ some p → (p.value ≤ bound) × (some s ≡ some (decimal p.value ++ (lf ∷ p.rest)))
    go none h e = let w = within_inv bound (number_of s) p e in (w.0, ap some (of_inv s p w.1))
    go (some r) h e =
        let w = within_inv bound (some (record { value = 0; rest = r })) p e in
        let q : record { value = 0; rest = r } ≡ p = cc w.1 in
        (w.0, ap some (behind_inv (text "0\n") s r h ∙ ap (λ (x : Parsed). decimal x.value ++ (lf ∷ x.rest)) q))

pub line_inv : (key : String) (bound : ℕ) (s : Bytes) (p : Parsed) → line_in (text key) bound s ≡ some p → (p.value ≤ bound) × (s ≡ keyed key p.value ++ p.rest)
unfolding line_in keyed
line_inv key bound s p e =
    let w = value_inv bound (behind (text key) s) p e in
    let v = p.value in
    let t : (text key ++ (decimal v ++ (lf ∷ []))) ++ p.rest ≡ text key ++ (decimal v ++ (lf ∷ p.rest)) =
    append_assoc (text key) (decimal v ++ (lf ∷ [])) p.rest ∙ ap (λ (x : Bytes). text key ++ x) (append_assoc (decimal v) (lf ∷ []) p.rest) in
    (w.0, behind_inv (text key) s (decimal v ++ (lf ∷ p.rest)) w.1 ∙ sym t)

-- ---- bytes
pub all_append : (f : ℕ → Bool) (a b : Bytes) → all f a ≡ true → all f b ≡ true → all f (a ++ b) ≡ true
unfolding all
all_append f [] b h k = k
all_append f (x ∷ a) b h k = go (f x) h (λ q. all_append f a b q k)
  where
    go : (t : Bool) → (elim t as (λ j. Bool) [ true ↦ all f a | false ↦ false ]) ≡ true → (all f a ≡ true → all f (a ++ b) ≡ true) → (elim t as (λ j. Bool) [ true ↦ all f (a ++ b) | false ↦ false ]) ≡ true
    go true h g = g h
    go false h g = let z : ◌≡◌ {A = ℕ} 0 1 = cc in absurd (omega arith)

one_byte : (x : ℕ) → x < 256 → is_content (x ∷ []) ≡ true
unfolding is_content all
one_byte x h = go (ltb x 256) (lt-ltb x 256 h)
  where
    go : (b : Bool) → b ≡ true → (elim b as (λ j. Bool) [ true ↦ true | false ↦ false ]) ≡ true
    go true e = refl
    go false e = e

decimal_bytes : (k v : ℕ) → v < k → is_content (decimal v) ≡ true
unfolding is_content all
decimal_bytes zero v h = absurd (omega arith)
decimal_bytes (suc k) v h = go (dec_lt v 10) (λ l. decimal_bytes k (v / 10) l)
  where
    go : Dec (v < 10) → (v / 10 < k → is_content (decimal (v / 10)) ≡ true) → is_content (decimal v) ≡ true
    go (yes l) f = ap is_content (decimal_one v l) ∙ one_byte (48 + v) (omega arith)
    go (no l) f =
        let t : 10 ≤ v = omega arith in
        let d : is_content ((48 + v % 10) ∷ []) ≡ true = one_byte (48 + v % 10) (omega arith) in
        ap is_content (decimal_more v t) ∙ all_append (λ (b : ℕ). ltb b 256) (decimal (v / 10)) ((48 + v % 10) ∷ []) (f (omega arith)) d

pub line_bytes : (key : String) (v : ℕ) → is_content (text key) ≡ true → is_content (keyed key v) ≡ true
unfolding is_content keyed all
line_bytes key v h =
    all_append (λ (b : ℕ). ltb b 256) (text key) (decimal v ++ (lf ∷ [])) h
    (all_append (λ (b : ℕ). ltb b 256) (decimal v) (lf ∷ []) (decimal_bytes (suc v) v (omega arith)) refl)
