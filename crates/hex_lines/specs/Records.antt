-- Intel HEX, read: hex digits, lines, and the record that a line is.
use Rattle.std.specs.Prelude.{Bool, true, false, not, cond, ◌&&◌, ◌||◌, List, [], ◌∷◌, Result, Ok, Err, ℕ, ◌+◌, ◌-◌, ◌*◌, ◌%◌, leb, ltb, eqb, length, get_or, take, drop}
use Rattle.rules.specs.Flash.{Bytes}
use Rattle.rules.specs.Lists.{all}
use Rattle.rules.specs.Text.{lf, is_digit}
use Rattle.hex_lines.specs.declared.Record.{Record}
use Rattle.hex_lines.specs.declared.Record.TheVariants.{End, Data}
use Rattle.hex_lines.specs.declared.HexFault.{HexFault}
use Rattle.hex_lines.specs.declared.HexFault.TheVariants.{BadLine, BadChecksum, BadType}

abbrev pub colon : ℕ
colon = 58

abbrev pub cr : ℕ
cr = 13

-- The value of a hex digit of either letter case; 16 for any other character.
unfoldable pub value : ℕ → ℕ
value c = cond (is_digit c) (c - 48) (cond (leb 65 c && leb c 70) (c - 55) (cond (leb 97 c && leb c 102) (c - 87) 16))

unfoldable pub is_hex : ℕ → Bool
is_hex c = ltb (value c) 16

-- Two digits are a byte.
unfoldable pub bytes_of : Bytes → Bytes
bytes_of [] = []
bytes_of (a ∷ []) = []
bytes_of (a ∷ (b ∷ s)) = (16 * value a + value b) ∷ bytes_of s

unfoldable pub sum : Bytes → ℕ
sum [] = 0
sum (x ∷ xs) = x + sum xs

-- The bytes of a line, behind its colon: count, address (high byte first), type, so many bytes, checksum.
unfoldable pub record_bytes : Bytes → Bytes
record_bytes l = bytes_of (drop 1 l)

unfoldable pub count : Bytes → ℕ
count l = get_or (record_bytes l) 0 0

unfoldable pub address : Bytes → ℕ
address l = 256 * get_or (record_bytes l) 1 0 + get_or (record_bytes l) 2 0

unfoldable pub kind : Bytes → ℕ
kind l = get_or (record_bytes l) 3 0

unfoldable pub data_of : Bytes → Bytes
data_of l = take (count l) (drop 4 (record_bytes l))

-- A colon, then hex digits, 11 + 2 x count characters in all, nothing before or behind.
unfoldable pub is_formed : Bytes → Bool
is_formed l = eqb (get_or l 0 0) colon && all is_hex (drop 1 l) && eqb (length l) (11 + 2 * count l)

-- An end record with data.
unfoldable pub is_full_end : Bytes → Bool
is_full_end l = eqb (kind l) 1 && ltb 0 (count l)

-- The sum of all bytes of the record, the checksum included, is 0 modulo 256.
unfoldable pub is_summed : Bytes → Bool
is_summed l = eqb (sum (record_bytes l) % 256) 0

-- 30 BAD LINE, 31 BAD CHECKSUM, 32 BAD TYPE, in this order; else an end record or a data record.
unfoldable pub record_of : Bytes → Result Record HexFault
record_of l =
    cond (not (is_formed l) || is_full_end l) (Err BadLine)
    (cond (not (is_summed l)) (Err BadChecksum)
    (cond (ltb 1 (kind l)) (Err BadType)
    (Ok (cond (eqb (kind l) 1) End (Data (address l) (count l))))))

-- A character more at the front of the first line.
unfoldable pub push : ℕ → List Bytes → List Bytes
push c [] = (c ∷ []) ∷ []
push c (l ∷ ls) = (c ∷ l) ∷ ls

-- The lines of a text, each ended by LF, by CR LF or by the text's end; a CR elsewhere is a character of its line.
unfoldable pub lines_of : Bytes → List Bytes
lines_of [] = []
lines_of (c ∷ s) =
    elim (eqb c lf) [
      | true ↦ [] ∷ lines_of s
      | false ↦ elim (eqb c cr && eqb (get_or s 0 0) lf) [ true ↦ lines_of s | false ↦ push c (lines_of s) ]
    ]
