-- Letter case and line ends do not matter.
use Rattle.std.specs.Prelude.{◌≡◌, refl, Bool, true, false, not, cond, ◌&&◌, Result, Ok, Err, List, [], ◌∷◌, map, ℕ, ◌-◌, ◌<◌, leb, eqb, length, get_or, drop, replicate}
use Rattle.std.proofs.Common.{sym, ap, ◌∙◌, arith, ne_eqb, le-leb}
use Rattle.std.proofs.Math.Decide.{dec_lt}
use Rattle.std.proofs.lemmas.Bool.{lt-leb}
use Rattle.std.proofs.lemmas.List.{length-map}
use Rattle.std.proofs.Math.Option.{none}
use Rattle.rules.specs.Flash.{Bytes}
use Rattle.rules.specs.Lists.{all, is_none}
use Rattle.rules.specs.Text.{lf}
use Rattle.rules.specs.declared.Geometry.{Geometry}
use Rattle.hex_lines.specs.Digits.{value_upper, value_lower}
use Rattle.hex_lines.specs.Records.{colon, cr, value, is_hex, bytes_of, record_bytes, count, kind, address, data_of, is_formed, is_full_end, is_summed, record_of, lines_of, push}
use Rattle.hex_lines.specs.Reads.{Cells, reading, is_outside, is_taken, name, reads, read_text}
use Rattle.hex_lines.specs.declared.Record.{Record}
use Rattle.hex_lines.specs.declared.Record.TheVariants.{End, Data}
use Rattle.hex_lines.specs.declared.HexFault.{HexFault}
use Rattle.hex_lines.specs.declared.HexFault.TheVariants.{BadLine}
use Rattle.hex_lines.specs.Lines.{lines_feed, lines_return, lines_more}
use Rattle.hex_lines.specs.Steps.{reading_bad, reading_end, reading_outside, reading_taken, reading_on}

-- CR LF for each LF.
unfoldable pub with_returns : Bytes → Bytes
with_returns [] = []
with_returns (c ∷ s) = elim (eqb c lf) [ true ↦ cr ∷ (lf ∷ with_returns s) | false ↦ c ∷ with_returns s ]

unfoldable pub no_returns : Bytes → Bool
no_returns s = all (λ (c : ℕ). not (eqb c cr)) s

lines_same : (s : Bytes) → no_returns s ≡ true → lines_of (with_returns s) ≡ lines_of s
unfolding no_returns all lines_of with_returns
lines_same [] h = refl
lines_same (c ∷ s) h = go (eqb c lf) (eqb c cr) refl refl h (λ q. lines_same s q)
  where
    go : (a b : Bool) → eqb c lf ≡ a → eqb c cr ≡ b → (elim (not b) as (λ j. Bool) [ true ↦ all (λ (d : ℕ). not (eqb d cr)) s | false ↦ false ]) ≡ true
        → (all (λ (d : ℕ). not (eqb d cr)) s ≡ true → lines_of (with_returns s) ≡ lines_of s)
        → lines_of (elim a as (λ j. Bytes) [ true ↦ cr ∷ (lf ∷ with_returns s) | false ↦ c ∷ with_returns s ]) ≡ lines_of (c ∷ s)
    go true true p q h f = let z : ◌≡◌ {A = ℕ} 0 1 = cc in absurd (omega arith)
    go false true p q h f = let z : ◌≡◌ {A = ℕ} 0 1 = cc in absurd (omega arith)
    go true false p q h f = rw (p, lines_of) (ap (λ (r : List Bytes). [] ∷ r) (f h))
    go false false p q h f = rw (p, q, lines_of) (ap (push c) (f h))

pub ends_alike : (g : Geometry) (t s : Bytes) → no_returns t ≡ true → reads g (with_returns t) s ≡ reads g t s
unfolding reads read_text
ends_alike g t s h = rw (lines_same t h)

-- ---- letter case
-- a to f as A to F.
unfoldable pub upper_of : ℕ → ℕ
upper_of c = cond (leb 97 c && leb c 102) (c - 32) c

unfoldable pub upper : Bytes → Bytes
upper s = map upper_of s

value_upper_of : (c : ℕ) → value (upper_of c) ≡ value c
unfolding upper_of
value_upper_of c = go (dec_lt c 97) (dec_lt c 103)
  where
    go : Dec (c < 97) → Dec (c < 103) → value (cond (leb 97 c && leb c 102) (c - 32) c) ≡ value c
    go (yes h) k = rw (lt-leb 97 c h)
    go (no h) (yes k) = rw (le-leb 97 c (omega arith), le-leb c 102 (omega arith)) (value_upper (c - 32) (omega arith) (omega arith) ∙ sub ∙ sym (value_lower c (omega arith) k))
      where
        sub : c - 32 - 55 ≡ c - 87
        sub = omega arith
    go (no h) (no k) = rw (le-leb 97 c (omega arith), lt-leb c 102 (omega arith))

-- a character that is no small letter stays what it is
eqb_upper : (c k : ℕ) → k < 65 → eqb (upper_of c) k ≡ eqb c k
unfolding upper_of
eqb_upper c k l = go (dec_lt c 97) (dec_lt c 103)
  where
    go : Dec (c < 97) → Dec (c < 103) → eqb (cond (leb 97 c && leb c 102) (c - 32) c) k ≡ eqb c k
    go (yes h) j = rw (lt-leb 97 c h)
    go (no h) (yes j) = rw (le-leb 97 c (omega arith), le-leb c 102 (omega arith)) (ne_eqb (c - 32) k (λ e. omega arith) ∙ sym (ne_eqb c k (λ e. omega arith)))
    go (no h) (no j) = rw (le-leb 97 c (omega arith), lt-leb c 102 (omega arith))

bytes_upper : (s : Bytes) → bytes_of (map upper_of s) ≡ bytes_of s
unfolding bytes_of
bytes_upper [] = refl
bytes_upper (a ∷ []) = refl
bytes_upper (a ∷ (b ∷ s)) = rw (value_upper_of a, value_upper_of b, bytes_upper s)

hex_upper : (c : ℕ) → is_hex (upper_of c) ≡ is_hex c
unfolding is_hex
hex_upper c = rw (value_upper_of c)

all_same : (c d : ℕ) (s t : Bytes) (b : Bool) → is_hex c ≡ b → is_hex d ≡ b → all is_hex s ≡ all is_hex t → all is_hex (c ∷ s) ≡ all is_hex (d ∷ t)
unfolding all
all_same c d s t true p q h = rw (p, q, all) h
all_same c d s t false p q h = rw (p, q, all)

all_upper : (s : Bytes) → all is_hex (map upper_of s) ≡ all is_hex s
unfolding all
all_upper [] = refl
all_upper (c ∷ s) = all_same (upper_of c) c (map upper_of s) s (is_hex c) (hex_upper c) refl (all_upper s)

drop_upper : (l : Bytes) → drop 1 (map upper_of l) ≡ map upper_of (drop 1 l)
drop_upper [] = refl
drop_upper (c ∷ l) = refl

first_upper : (l : Bytes) (k : ℕ) → k < 65 → eqb (get_or (map upper_of l) 0 0) k ≡ eqb (get_or l 0 0) k
first_upper [] k h = refl
first_upper (c ∷ l) k h = eqb_upper c k h

record_upper : (l : Bytes) → record_bytes (map upper_of l) ≡ record_bytes l
unfolding record_bytes
record_upper l = ap bytes_of (drop_upper l) ∙ bytes_upper (drop 1 l)

line_upper : (l : Bytes) → record_of (map upper_of l) ≡ record_of l
unfolding record_of is_formed is_full_end is_summed count kind address
line_upper l =
    rw (record_upper l, first_upper l colon (omega arith), drop_upper l, all_upper (drop 1 l), length-map l upper_of)

data_upper : (l : Bytes) → data_of (map upper_of l) ≡ data_of l
unfolding data_of count
data_upper l = rw (record_upper l)

push_upper : (c : ℕ) (ls : List Bytes) → push (upper_of c) (map (map upper_of) ls) ≡ map (map upper_of) (push c ls)
unfolding push
push_upper c [] = refl
push_upper c (l ∷ ls) = refl

lines_upper : (s : Bytes) → lines_of (map upper_of s) ≡ map (map upper_of) (lines_of s)
unfolding lines_of
lines_upper [] = refl
lines_upper (c ∷ s) = go (eqb c lf) (eqb c cr && eqb (get_or s 0 0) lf) refl refl (lines_upper s)
  where
    return_upper : eqb (upper_of c) cr && eqb (get_or (map upper_of s) 0 0) lf ≡ eqb c cr && eqb (get_or s 0 0) lf
    return_upper = rw (eqb_upper c cr (omega arith), first_upper s lf (omega arith))

    go : (a b : Bool) → eqb c lf ≡ a → eqb c cr && eqb (get_or s 0 0) lf ≡ b → lines_of (map upper_of s) ≡ map (map upper_of) (lines_of s) → lines_of (upper_of c ∷ map upper_of s) ≡ map (map upper_of) (lines_of (c ∷ s))
    go true b p q h = lines_feed (upper_of c) (map upper_of s) (eqb_upper c lf (omega arith) ∙ p) ∙ ap (λ (r : List Bytes). [] ∷ r) h ∙ sym (ap (map (map upper_of)) (lines_feed c s p))
    go false true p q h = lines_return (upper_of c) (map upper_of s) (eqb_upper c lf (omega arith) ∙ p) (return_upper ∙ q) ∙ h ∙ sym (ap (map (map upper_of)) (lines_return c s p q))
    go false false p q h =
        lines_more (upper_of c) (map upper_of s) (eqb_upper c lf (omega arith) ∙ p) (return_upper ∙ q) ∙ ap (push (upper_of c)) h ∙ push_upper c (lines_of s)
        ∙ sym (ap (map (map upper_of)) (lines_more c s p q))

none_upper : (ls : List Bytes) → is_none (map (map upper_of) ls) ≡ is_none ls
unfolding is_none
none_upper [] = refl
none_upper (l ∷ ls) = refl

reading_upper : (ls : List Bytes) (cs : Cells) → reading (map (map upper_of) ls) cs ≡ reading ls cs
unfolding reading
reading_upper [] cs = refl
reading_upper (l ∷ ls) cs = go (record_of l) refl (λ us. reading_upper ls us)
  where
    u : Bytes
    u = map upper_of l

    us : List Bytes
    us = map (map upper_of) ls

    data_line : (a n : ℕ) → record_of l ≡ Ok (Data a n) → (o t : Bool) → is_outside a n cs ≡ o → is_taken a n cs ≡ t → ((ds : Cells) → reading us ds ≡ reading ls ds) → reading (u ∷ us) cs ≡ reading (l ∷ ls) cs
    data_line a n r true t p q f = reading_outside u us cs a n (line_upper l ∙ r) p ∙ sym (reading_outside l ls cs a n r p)
    data_line a n r false true p q f = reading_taken u us cs a n (line_upper l ∙ r) p q ∙ sym (reading_taken l ls cs a n r p q)
    data_line a n r false false p q f =
        reading_on u us cs a n (line_upper l ∙ r) p q ∙ ap (λ (xs : Bytes). reading us (name a xs cs)) (data_upper l) ∙ f (name a (data_of l) cs) ∙ sym (reading_on l ls cs a n r p q)

    go : (r : Result Record HexFault) → record_of l ≡ r → ((ds : Cells) → reading us ds ≡ reading ls ds) → reading (u ∷ us) cs ≡ reading (l ∷ ls) cs
    go (Err k) r f = reading_bad u us cs k (line_upper l ∙ r) ∙ sym (reading_bad l ls cs k r)
    go (Ok End) r f = reading_end u us cs (line_upper l ∙ r) ∙ ap (λ (b : Bool). cond b (Ok cs) (Err BadLine)) (none_upper ls) ∙ sym (reading_end l ls cs r)
    go (Ok (Data a n)) r f = data_line a n r (is_outside a n cs) (is_taken a n cs) refl refl f

pub case_alike : (g : Geometry) (t s : Bytes) → reads g (upper t) s ≡ reads g t s
unfolding reads read_text upper
case_alike g t s = rw (lines_upper t, reading_upper (lines_of t) (replicate (length s) none))
