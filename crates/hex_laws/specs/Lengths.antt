-- How long a text is.
use Rattle.std.specs.Prelude.{◌≡◌, refl, Bool, true, false, [], ◌∷◌, ◌++◌, ℕ, zero, suc, ◌+◌, ◌*◌, ◌/◌, ◌≤◌, length, take, drop}
use Rattle.std.proofs.Common.{ap, arith, length-append, length-drop, length-take-le}
use Rattle.rules.specs.Flash.{Bytes, erased, is_geometry}
use Rattle.rules.specs.Text.{text, lf}
use Rattle.rules.specs.declared.Geometry.{Geometry}
use Rattle.hex_lines.specs.Writes.{digits_of, checksum, row_bytes, row_line, row_text, rows_text, end_line, hex_text, room_for}
use Rattle.hex_lines.specs.Digits.{digits_long}
use Rattle.hex_lines.specs.Sizes.{rows_whole}

-- How many of the first k rows are not all FF.
unfoldable pub full_rows : ℕ → Bytes → ℕ
full_rows zero s = 0
full_rows (suc k) s = let r = full_rows k (drop 16 s) in elim (erased (take 16 s)) [ true ↦ r | false ↦ suc r ]

row_long : (a : ℕ) (xs : Bytes) → length xs ≡ 16 → length (row_line a xs) ≡ 44
unfolding row_line row_bytes
row_long a xs l =
    let b : Bytes = row_bytes a xs ++ (checksum (row_bytes a xs) ∷ []) in
    omega (arith, length-append (digits_of b) (lf ∷ []), digits_long b, length-append xs (checksum (row_bytes a xs) ∷ []))

module _ (a : ℕ) (xs : Bytes) where
  blank_text : erased xs ≡ true → row_text a xs ≡ []
  unfolding row_text
  blank_text e = rw (e, row_text)

  full_text : erased xs ≡ false → row_text a xs ≡ row_line a xs
  unfolding row_text
  full_text e = rw (e, row_text)

rows_long : (k a : ℕ) (s : Bytes) → length s ≡ 16 * k → length (rows_text k a s) ≡ 44 * full_rows k s
unfolding rows_text full_rows
rows_long zero a s l = refl
rows_long (suc k) a s l = go (erased (take 16 s)) refl (rows_long k (a + 16) (drop 16 s) (omega (arith, length-drop 16 s)))
  where
    go : (b : Bool) → erased (take 16 s) ≡ b → length (rows_text k (a + 16) (drop 16 s)) ≡ 44 * full_rows k (drop 16 s)
        → length (row_text a (take 16 s) ++ rows_text k (a + 16) (drop 16 s)) ≡ 44 * (elim b as (λ j. ℕ) [ true ↦ full_rows k (drop 16 s) | false ↦ suc (full_rows k (drop 16 s)) ])
    go true e h = omega (arith, h, length-append (row_text a (take 16 s)) (rows_text k (a + 16) (drop 16 s)), ap length (blank_text a (take 16 s) e))
    go false e h =
        omega (arith, h, length-append (row_text a (take 16 s)) (rows_text k (a + 16) (drop 16 s)), ap length (full_text a (take 16 s) e), row_long a (take 16 s) (length-take-le 16 s (omega arith)))

rows_few : (k : ℕ) (s : Bytes) → full_rows k s ≤ k
unfolding full_rows
rows_few zero s = omega arith
rows_few (suc k) s = go (erased (take 16 s)) (rows_few k (drop 16 s))
  where
    go : (b : Bool) → full_rows k (drop 16 s) ≤ k → (elim b as (λ j. ℕ) [ true ↦ full_rows k (drop 16 s) | false ↦ suc (full_rows k (drop 16 s)) ]) ≤ suc k
    go true h = omega arith
    go false h = omega arith

end_long : length end_line ≡ 12
unfolding end_line text
end_long = refl

pub text_length : (g : Geometry) (s : Bytes) → is_geometry g (length s) ≡ true → (length (hex_text s) ≡ 44 * full_rows (length s / 16) s + 12) × (length (hex_text s) ≤ room_for (length s))
unfolding hex_text room_for
text_length g s e =
    let k : ℕ = length s / 16 in
    let n : length (hex_text s) ≡ 44 * full_rows (length s / 16) s + 12 = omega (arith, length-append (rows_text (length s / 16) 0 s) end_line, end_long, rows_long (length s / 16) 0 s (rows_whole g (length s) e).0) in
    (n, omega (arith, n, rows_few (length s / 16) s))
