-- Writing an image as a HEX text.
use Rattle.std.specs.Prelude.{true, false, cond, ◌&&◌, [], ◌∷◌, ◌++◌, ℕ, zero, suc, ◌+◌, ◌-◌, ◌*◌, ◌/◌, ◌%◌, leb, ltb, length, take, drop}
use Rattle.rules.specs.Flash.{Bytes, erased, is_geometry}
use Rattle.rules.specs.Text.{text, lf}
use Rattle.rules.specs.declared.Geometry.{Geometry}
use Rattle.hex_lines.specs.Records.{colon, sum}

-- Upper case.
unfoldable pub digit : ℕ → ℕ
digit v = cond (ltb v 10) (48 + v) (55 + v)

unfoldable pub digits_of : Bytes → Bytes
digits_of [] = []
digits_of (x ∷ xs) = digit (x / 16) ∷ (digit (x % 16) ∷ digits_of xs)

-- What makes the sum of all bytes 0 modulo 256.
unfoldable pub checksum : Bytes → ℕ
checksum xs = (256 - sum xs % 256) % 256

-- Count, address, type 00 and the bytes of a data record of 16.
unfoldable pub row_bytes : ℕ → Bytes → Bytes
row_bytes a xs = 16 ∷ (a / 256 ∷ (a % 256 ∷ (0 ∷ xs)))

-- A data record's line.
unfoldable pub row_line : ℕ → Bytes → Bytes
row_line a xs = let b = row_bytes a xs in colon ∷ (digits_of (b ++ (checksum b ∷ [])) ++ (lf ∷ []))

-- Rows that are all FF are left out.
unfoldable pub row_text : ℕ → Bytes → Bytes
row_text a xs = elim (erased xs) [ true ↦ [] | false ↦ row_line a xs ]

-- k rows of 16 bytes at ascending addresses, from a on.
unfoldable pub rows_text : ℕ → ℕ → Bytes → Bytes
rows_text zero a s = []
rows_text (suc k) a s = row_text a (take 16 s) ++ rows_text k (a + 16) (drop 16 s)

unfoldable pub end_line : Bytes
end_line = text ":00000001FF" ++ (lf ∷ [])

unfoldable pub hex_text : Bytes → Bytes
hex_text s = rows_text (length s / 16) 0 s ++ end_line

-- The longest text of an image of n bytes.
unfoldable pub room_for : ℕ → ℕ
room_for n = 44 * (n / 16) + 12

-- The number that a write answers, the text's length, and the lent buffer afterwards.
pub record Output : Type 0 where
  pub number : ℕ
  pub length : ℕ
  pub buffer : Bytes

-- 2 where the geometry is not right or the buffer is shorter than the longest text; behind the text the buffer is unchanged.
unfoldable pub writes : Geometry → Bytes → Bytes → Output
writes g s b =
    let t = hex_text s in
    cond (is_geometry g (length s) && leb (room_for (length s)) (length b))
    (record { number = 0; length = length t; buffer = t ++ drop (length t) b })
    (record { number = 2; length = 0; buffer = b })
