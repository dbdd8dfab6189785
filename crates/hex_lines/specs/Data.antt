-- What a line that has a record's form holds, and what a data record says.
use Rattle.std.specs.Prelude.{◌≡◌, refl, Bool, true, false, not, cond, ◌&&◌, ◌||◌, [], ◌∷◌, Ok, Err, ℕ, zero, suc, ◌+◌, ◌*◌, ◌≤◌, ◌<◌, ltb, eqb, length, get_or, drop}
use Rattle.std.proofs.Math.Path.{sym, ap}
use Rattle.std.proofs.Common.{◌∙◌, arith, get_or-take}
use Rattle.std.proofs.lemmas.Bool.{and_parts, and_from, false≢true}
use borrow.Author.Tests.{eq-eqb, eqb-true, ltb-true}
use Rattle.std.proofs.Math.ListN.{length-drop}
use Rattle.std.proofs.Math.Seq.{get_or-drop, length-take-le}
use Rattle.rules.specs.Flash.{Bytes}
use Rattle.rules.specs.Lists.{all}
use Rattle.hex_lines.specs.declared.Record.TheVariants.{End, Data}
use Rattle.hex_lines.specs.declared.HexFault.{HexFault}
use Rattle.hex_lines.specs.declared.HexFault.TheVariants.{BadLine, BadChecksum, BadType}
use Rattle.hex_lines.specs.Faults.{number}
use Rattle.hex_lines.specs.Digits.{pair_of, hex_at, byte_there}
use Rattle.hex_lines.specs.Records.{colon, value, is_hex, bytes_of, record_bytes, count, address, kind, data_of, is_formed, is_full_end, is_summed, record_of}

byte_small : (s : Bytes) (k : ℕ) → all is_hex s ≡ true → get_or (bytes_of s) k 0 < 256
unfolding bytes_of all is_hex
byte_small [] k e = omega arith
byte_small (a ∷ []) k e = omega arith
byte_small (a ∷ (b ∷ s)) k e = go (ltb (value a) 16) (ltb (value b) 16) refl refl e k (λ j h. byte_small s j h)
  where
    go : (x y : Bool) → ltb (value a) 16 ≡ x → ltb (value b) 16 ≡ y
        → (elim x as (λ j. Bool) [ true ↦ elim y as (λ j. Bool) [ true ↦ all is_hex s | false ↦ false ] | false ↦ false ]) ≡ true
        → (k : ℕ) → ((j : ℕ) → all is_hex s ≡ true → get_or (bytes_of s) j 0 < 256) → get_or ((16 * value a + value b) ∷ bytes_of s) k 0 < 256
    go true true p q e zero f = omega (arith, ltb-true (value a) 16 p, ltb-true (value b) 16 q)
    go true true p q e (suc k) f = f k e
    go true false p q e k f = let z : ◌≡◌ {A = ℕ} 0 1 = cc in absurd (omega arith)
    go false y p q e k f = let z : ◌≡◌ {A = ℕ} 0 1 = cc in absurd (omega arith)

bytes_length : (s : Bytes) → (length s ≤ 2 * length (bytes_of s) + 1) × (2 * length (bytes_of s) ≤ length s)
unfolding bytes_of
bytes_length [] = (omega arith, omega arith)
bytes_length (a ∷ []) = (omega arith, omega arith)
bytes_length (a ∷ (b ∷ s)) = let h = bytes_length s in (omega (arith, h.0), omega (arith, h.1))

never : (b : Bool) → (b ≡ true → ⊥) → false ≡ b
never true h = absurd (h refl)
never false h = refl

-- ---- a line that has a record's form
module _ (l : Bytes) (f : is_formed l ≡ true) where
  pub formed_digits : all is_hex (drop 1 l) ≡ true
  unfolding is_formed
  formed_digits =
      (and_parts (eqb (get_or l 0 0) colon) (all is_hex (drop 1 l)) (and_parts (eqb (get_or l 0 0) colon && all is_hex (drop 1 l)) (eqb (length l) (11 + 2 * count l)) f).0).1

  pub formed_length : length l ≡ 11 + 2 * count l
  unfolding is_formed
  formed_length = eqb-true (length l) (11 + 2 * count l) (and_parts (eqb (get_or l 0 0) colon && all is_hex (drop 1 l)) (eqb (length l) (11 + 2 * count l)) f).1

  pub formed_pair : (k : ℕ) → 2 * k + 2 < length l → is_hex (get_or l (2 * k + 1) 0) && is_hex (get_or l (2 * k + 2) 0) ≡ true
  formed_pair k h =
      let n : 1 + 2 * k ≡ 2 * k + 1 = omega arith in
      let m : 1 + (2 * k + 1) ≡ 2 * k + 2 = omega arith in
      let at : (j : ℕ) → j + 1 < length l → is_hex (get_or l (1 + j) 0) ≡ true = λ (j : ℕ) (u : j + 1 < length l). ap is_hex (sym (get_or-drop 1 l j 0)) ∙ hex_at (drop 1 l) j formed_digits (omega (arith, length-drop 1 l)) in
      and_from (is_hex (get_or l (2 * k + 1) 0)) (is_hex (get_or l (2 * k + 2) 0)) (rw n at (at (2 * k) (omega arith))) (rw m at (at (2 * k + 1) (omega arith)))

  pub byte_bound : (k : ℕ) → get_or (record_bytes l) k 0 < 256
  unfolding record_bytes
  byte_bound k = byte_small (drop 1 l) k formed_digits

  pub record_length : length (record_bytes l) ≡ 5 + count l
  unfolding record_bytes
  record_length = let h = bytes_length (drop 1 l) in omega (arith, h.0, h.1, length-drop 1 l, formed_length)

  pub data_length : length (data_of l) ≡ count l
  unfolding data_of
  data_length = length-take-le (count l) (drop 4 (record_bytes l)) (omega (arith, length-drop 4 (record_bytes l), record_length))

  pub data_at : (k : ℕ) → k < count l → get_or (record_bytes l) (4 + k) 0 ≡ get_or (data_of l) k 0
  unfolding data_of
  data_at k h = sym (get_or-take (count l) (drop 4 (record_bytes l)) k 0 h ∙ get_or-drop 4 (record_bytes l) k 0)

-- ---- a line's record
or_false : (a b : Bool) → (not a || b) ≡ false → (a ≡ true) × (b ≡ false)
or_false true b e = (refl, e)
or_false false b e = absurd (cc)

chosen_data : (x y z w : Bool) (a n b m : ℕ) → cond x (Err BadLine) (cond y (Err BadChecksum) (cond z (Err BadType) (Ok (cond w End (Data a n))))) ≡ Ok (Data b m) → (x ≡ false) × (a ≡ b) × (n ≡ m)
chosen_data true y z w a n b m e = absurd (cc)
chosen_data false true z w a n b m e = absurd (cc)
chosen_data false false true w a n b m e = absurd (cc)
chosen_data false false false true a n b m e = absurd (cc)
chosen_data false false false false a n b m e = (refl, (cc), (cc))

module _ (l : Bytes) (a n : ℕ) (e : record_of l ≡ Ok (Data a n)) where
  parts : ((not (is_formed l) || is_full_end l) ≡ false) × (address l ≡ a) × (count l ≡ n)
  unfolding record_of
  parts = chosen_data (not (is_formed l) || is_full_end l) (not (is_summed l)) (ltb 1 (kind l)) (eqb (kind l) 1) (address l) (count l) a n e

  pub data_formed : is_formed l ≡ true
  data_formed = (or_false (is_formed l) (is_full_end l) parts.0).0

  pub data_counted : count l ≡ n
  data_counted = parts.2

  pub data_address : a < 65536
  unfolding address
  data_address = omega (arith, byte_bound l data_formed 1, byte_bound l data_formed 2, parts.1)

  pub data_count : n < 256
  unfolding count
  data_count = omega (arith, byte_bound l data_formed 0, parts.2)

chosen_fault : (x y z w : Bool) (a n : ℕ) (k : HexFault) → cond x (Err BadLine) (cond y (Err BadChecksum) (cond z (Err BadType) (Ok (cond w End (Data a n))))) ≡ Err k → (30 ≤ number k) × (number k ≤ 32)
chosen_fault true y z w a n k e = let q : BadLine ≡ k = cc in rw (← q) (omega arith, omega arith)
chosen_fault false true z w a n k e = let q : BadChecksum ≡ k = cc in rw (← q) (omega arith, omega arith)
chosen_fault false false true w a n k e = let q : BadType ≡ k = cc in rw (← q) (omega arith, omega arith)
chosen_fault false false false w a n k e = absurd (cc)

-- A line that is no record is 30, 31 or 32.
pub fault_number : (l : Bytes) (k : HexFault) → record_of l ≡ Err k → (30 ≤ number k) × (number k ≤ 32)
unfolding record_of
fault_number l k e = chosen_fault (not (is_formed l) || is_full_end l) (not (is_summed l)) (ltb 1 (kind l)) (eqb (kind l) 1) (address l) (count l) k e

-- ---- what shows that a line has a record's form, or not
module _ (l : Bytes) (n : ℕ) (q : n ≡ pair_of (get_or l 1 0) (get_or l 2 0)) (h : 2 < length l) where
  counted : n ≡ count l
  unfolding count
  counted = q ∙ byte_there l 0 h

  pub formed_by : get_or l 0 0 ≡ colon → length l ≡ 11 + 2 * n → all is_hex (drop 1 l) ≡ true → is_formed l ≡ true
  unfolding is_formed
  formed_by c m d =
      let e : length l ≡ 11 + 2 * count l = omega (arith, counted) in
      rw (c, d, ← e, eq-eqb (length l) (length l) refl)

  pub other_length : (length l ≡ 11 + 2 * n → ⊥) → false ≡ is_formed l
  other_length m = never (is_formed l) (λ f. m (omega (arith, counted, formed_length l f)))

  pub other_digits : all is_hex (drop 1 l) ≡ false → false ≡ is_formed l
  other_digits d = never (is_formed l) (λ f. false≢true (sym d ∙ formed_digits l f))

pub other_pair : (l : Bytes) → 2 < length l → (is_hex (get_or l 1 0) && is_hex (get_or l 2 0) ≡ true → ⊥) → false ≡ is_formed l
other_pair l h n = never (is_formed l) (λ f. n (formed_pair l f 0 h))

pub unformed : (l : Bytes) → false ≡ is_formed l → record_of l ≡ Err BadLine
unfolding record_of
unformed l e = rw (← e)
