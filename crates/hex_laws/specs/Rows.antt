-- A row's line, read: the record that it is.
use Rattle.std.specs.Prelude.{◌≡◌, Bool, true, false, cond, Ok, [], ◌∷◌, ◌++◌, ltb, length, drop}
use Rattle.std.proofs.Math.Path.{refl, ap}
use Rattle.std.proofs.Common.{◌∙◌}
use Prim.Native.Nat.{ℕ, zero, suc, ◌+◌, ◌*◌, ◌/◌, ◌%◌, ◌<◌}
use native.Mathlib.Omega.{arith}
use Rattle.std.proofs.Math.Decide.{dec_lt}
use borrow.Author.Tests.{eq-eqb, ne_eqb, lt-ltb, le-ltb, ltb-true}
use Rattle.std.proofs.Math.ListN.{get_or, take, length-append}
use Rattle.std.proofs.Math.Seq.{take_at}
use Rattle.rules.specs.Flash.{Bytes}
use Rattle.rules.specs.Lists.{all}
use Rattle.rules.specs.Text.{lf}
use Rattle.laws.specs.Words.{AreBytes}
use Rattle.hex_lines.specs.declared.Record.TheVariants.{Data}
use Rattle.hex_lines.specs.Records.{colon, cr, value, is_hex, bytes_of, record_bytes, count, address, kind, data_of, is_formed, is_full_end, is_summed, sum, record_of, lines_of, push}
use Rattle.hex_lines.specs.Digits.{value_digit, value_upper, digits_long, sum_append}
use Rattle.hex_lines.specs.Writes.{digit, digits_of, checksum, row_bytes, row_line}

-- ---- digits
value_of : (v : ℕ) → v < 16 → value (digit v) ≡ v
unfolding digit
value_of v h = go (dec_lt v 10)
  where
    go : Dec (v < 10) → value (cond (ltb v 10) (48 + v) (55 + v)) ≡ v
    go (yes l) = rw (lt-ltb v 10 l, value_digit (48 + v) (omega arith) (omega arith)) (omega arith)
    go (no l) = rw (le-ltb v 10 (omega arith), value_upper (55 + v) (omega arith) (omega arith)) (omega arith)

digit_plain : (v : ℕ) → ltb 13 (digit v) ≡ true
unfolding digit
digit_plain v = go (ltb v 10)
  where
    go : (b : Bool) → ltb 13 (cond b (48 + v) (55 + v)) ≡ true
    go true = lt-ltb 13 (48 + v) (omega arith)
    go false = lt-ltb 13 (55 + v) (omega arith)

rest_bytes : (x : ℕ) (xs : Bytes) → AreBytes (x ∷ xs) → AreBytes xs
rest_bytes x xs h i = h (suc i)

pub bytes_of_lem : (xs : Bytes) → AreBytes xs → bytes_of (digits_of xs) ≡ xs
unfolding bytes_of digits_of
bytes_of_lem [] h = refl
bytes_of_lem (x ∷ xs) h =
    let l : x < 256 = h 0 in
    let e : 16 * value (digit (x / 16)) + value (digit (x % 16)) ≡ x = omega (arith, value_of (x / 16) (omega arith), value_of (x % 16) (omega arith)) in
    rw (e, bytes_of_lem xs (rest_bytes x xs h))

all_more : (f : ℕ → Bool) (c : ℕ) (s : Bytes) → f c ≡ true → all f (c ∷ s) ≡ all f s
unfolding all
all_more f c s e = rw (e, all)

is_hex_lem : (v : ℕ) → v < 16 → is_hex (digit v) ≡ true
unfolding is_hex
is_hex_lem v h = lt-ltb (value (digit v)) 16 (omega (arith, value_of v h))

all_digits : (xs : Bytes) → AreBytes xs → all is_hex (digits_of xs) ≡ true
unfolding all digits_of
all_digits [] h = refl
all_digits (x ∷ xs) h =
    let l : x < 256 = h 0 in
    all_more is_hex (digit (x / 16)) (digit (x % 16) ∷ digits_of xs) (is_hex_lem (x / 16) (omega arith)) ∙ all_more is_hex (digit (x % 16)) (digits_of xs) (is_hex_lem (x % 16) (omega arith)) ∙ all_digits xs (rest_bytes x xs h)

-- A character that ends no line.
plain_digits : (xs : Bytes) → all (ltb 13) (digits_of xs) ≡ true
unfolding all digits_of
plain_digits [] = refl
plain_digits (x ∷ xs) = all_more (ltb 13) (digit (x / 16)) (digit (x % 16) ∷ digits_of xs) (digit_plain (x / 16)) ∙ all_more (ltb 13) (digit (x % 16)) (digits_of xs) (digit_plain (x % 16)) ∙ plain_digits xs

-- ---- a line of such characters
pub line_first : (l t : Bytes) → all (ltb 13) l ≡ true → lines_of (l ++ (lf ∷ t)) ≡ l ∷ lines_of t
unfolding all lines_of push
line_first [] t h = refl
line_first (c ∷ l) t h = go (ltb 13 c) refl h (λ q. line_first l t q)
  where
    go : (b : Bool) → ltb 13 c ≡ b → (elim b as (λ j. Bool) [ true ↦ all (ltb 13) l | false ↦ false ]) ≡ true
        → (all (ltb 13) l ≡ true → lines_of (l ++ (lf ∷ t)) ≡ l ∷ lines_of t) → lines_of (c ∷ (l ++ (lf ∷ t))) ≡ (c ∷ l) ∷ lines_of t
    go true e h f =
        let k : 13 < c = ltb-true 13 c e in
        rw (ne_eqb c lf (λ q. omega arith), ne_eqb c cr (λ q. omega arith), lines_of) (ap (push c) (f h))
    go false e h f = let z : ◌≡◌ {A = ℕ} 0 1 = cc in absurd (omega arith)

-- ---- a row
bytes_append : (xs : Bytes) (y : ℕ) → AreBytes xs → y < 256 → AreBytes (xs ++ (y ∷ []))
bytes_append [] y h l zero = l
bytes_append [] y h l (suc i) = omega arith
bytes_append (x ∷ xs) y h l zero = h 0
bytes_append (x ∷ xs) y h l (suc i) = bytes_append xs y (rest_bytes x xs h) l i

module _ (a : ℕ) (xs : Bytes) (small : a < 65536) (long : length xs ≡ 16) (bytes : AreBytes xs) where
  -- its line without the line feed
  abbrev pub body : Bytes
  body = colon ∷ digits_of (row_bytes a xs ++ (checksum (row_bytes a xs) ∷ []))

  pub row_body : row_line a xs ≡ body ++ (lf ∷ [])
  unfolding row_line
  row_body = refl

  pub body_plain : all (ltb 13) body ≡ true
  unfolding all
  body_plain = plain_digits (row_bytes a xs ++ (checksum (row_bytes a xs) ∷ []))

  head_bytes_lem : AreBytes (row_bytes a xs)
  unfolding row_bytes
  head_bytes_lem zero = omega arith
  head_bytes_lem (suc zero) = omega arith
  head_bytes_lem (suc (suc zero)) = omega arith
  head_bytes_lem (suc (suc (suc zero))) = omega arith
  head_bytes_lem (suc (suc (suc (suc i)))) = bytes i

  whole_bytes : AreBytes (row_bytes a xs ++ (checksum (row_bytes a xs) ∷ []))
  unfolding checksum
  whole_bytes = bytes_append (row_bytes a xs) (checksum (row_bytes a xs)) head_bytes_lem (omega arith)

  record_is : record_bytes body ≡ row_bytes a xs ++ (checksum (row_bytes a xs) ∷ [])
  unfolding record_bytes
  record_is = bytes_of_lem (row_bytes a xs ++ (checksum (row_bytes a xs) ∷ [])) whole_bytes

  count_is : count body ≡ 16
  unfolding count row_bytes
  count_is = ap (λ (r : Bytes). get_or r 0 0) record_is

  kind_is : kind body ≡ 0
  unfolding kind row_bytes
  kind_is = ap (λ (r : Bytes). get_or r 3 0) record_is

  address_is : address body ≡ a
  unfolding address row_bytes
  address_is = ap (λ (r : Bytes). 256 * get_or r 1 0 + get_or r 2 0) record_is ∙ omega arith

  pub row_data : data_of body ≡ xs
  unfolding data_of row_bytes
  row_data =
      ap (λ (r : Bytes). take (count body) (drop 4 r)) record_is
      ∙ ap (λ (k : ℕ). take k (xs ++ (checksum (row_bytes a xs) ∷ []))) count_is
      ∙ take_at xs (checksum (row_bytes a xs) ∷ []) 16 long

  length_is : length body ≡ 11 + 2 * count body
  unfolding row_bytes
  length_is =
      omega (arith, digits_long (row_bytes a xs ++ (checksum (row_bytes a xs) ∷ [])), length-append xs (checksum (row_bytes a xs) ∷ []), count_is)

  formed_is : is_formed body ≡ true
  unfolding is_formed
  formed_is = rw (all_digits (row_bytes a xs ++ (checksum (row_bytes a xs) ∷ [])) whole_bytes, eq-eqb (length body) (11 + 2 * count body) length_is)

  full_is : is_full_end body ≡ false
  unfolding is_full_end
  full_is = rw kind_is

  summed_is : is_summed body ≡ true
  unfolding is_summed checksum
  summed_is =
      eq-eqb (sum (record_bytes body) % 256) 0
      (ap (λ (r : Bytes). sum r % 256) record_is ∙ omega (arith, sum_append (row_bytes a xs) (checksum (row_bytes a xs))))

  pub row_record : record_of body ≡ Ok (Data a 16)
  unfolding record_of
  row_record = rw (formed_is, full_is, summed_is, kind_is, address_is, count_is)
