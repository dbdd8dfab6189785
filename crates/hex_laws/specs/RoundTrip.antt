-- Reading what was written gives the image back.
use Rattle.std.specs.Prelude.{◌≡◌, Bool, true, false, Ok, get_or, take}
use Rattle.std.proofs.Math.Path.{refl, sym, ap}
use Rattle.std.proofs.Common.{◌∙◌, subst, add-suc, arith, length-drop, take-append-drop, take_at, get_or-append-add, get_or-drop, get_or-take, length-take-le}
use mathlib.Core.List.{List, [], ◌∷◌, ◌++◌, append_assoc, append-nil, map}
use Rattle.std.proofs.Math.Option.{Option, none, some}
use Prim.Native.Nat.{ℕ, zero, suc, ◌+◌, ◌*◌, ◌/◌, ◌≤◌, ◌<◌}
use Rattle.std.proofs.Math.Decide.{dec_lt}
use Rattle.std.proofs.Math.ListN.{length, drop, replicate, length-append, length-map, get_or-eq_default}
use Rattle.std.proofs.lemmas.List.{length-replicate, replicate-append-replicate}
use Rattle.std.proofs.Math.Seq.{sets, sets-eq, drop_at}
use Rattle.rules.specs.Flash.{Bytes, erased, is_geometry}
use Rattle.rules.specs.Lists.{all, is_none}
use Rattle.rules.specs.Text.{text, lf, is_digit}
use Rattle.laws.specs.Complete.{erased_is_lem}
use Rattle.laws.specs.Words.{AreBytes}
use Rattle.rules.specs.declared.Geometry.{Geometry}
use Rattle.hex_lines.specs.Records.{value, is_hex, bytes_of, record_bytes, count, kind, sum, is_formed, is_full_end, is_summed, record_of, lines_of, push}
use Rattle.hex_lines.specs.Reads.{Cells, reading, read_text, is_named, is_taken, name, or_erased, settled, reads}
use Rattle.hex_lines.specs.Writes.{row_line, row_text, rows_text, end_line, hex_text}
use Rattle.hex_lines.specs.Sizes.{rows_whole}
use Rattle.hex_lines.specs.Steps.{reading_end, reading_on, is_inside}
use Rattle.hex_laws.specs.Rows.{body, row_body, body_plain, row_data, row_record, line_first}

-- ---- what no record has named
pub none_at : (m i : ℕ) → ◌≡◌ {A = Option ℕ} (get_or (replicate m none) i none) none
none_at zero i = refl
none_at (suc m) zero = refl
none_at (suc m) (suc i) = none_at m i

fresh : (n m i : ℕ) (p : Cells) → is_taken (length p + i) n (p ++ replicate m none) ≡ false
unfolding is_taken is_named
fresh zero m i p = refl
fresh (suc n) m i p =
    let e : get_or (p ++ replicate m none) (length p + i) none ≡ none = get_or-append-add p (replicate m none) i none ∙ none_at m i in
    rw (e, ← (add-suc (length p) i)) (fresh n m (suc i) p)

-- ---- a row's cells
unfoldable row_cells : Bytes → Cells
row_cells xs = elim (erased xs) [ true ↦ replicate 16 none | false ↦ map some xs ]

unfoldable cells_of : ℕ → Bytes → Cells
cells_of zero s = []
cells_of (suc k) s = row_cells (take 16 s) ++ cells_of k (drop 16 s)

map_append : (xs ys : Cells) → map or_erased (xs ++ ys) ≡ map or_erased xs ++ map or_erased ys
map_append [] ys = refl
map_append (x ∷ xs) ys = ap (λ (r : Bytes). or_erased x ∷ r) (map_append xs ys)

map_some : (xs : Bytes) → map or_erased (map some xs) ≡ xs
unfolding or_erased
map_some [] = refl
map_some (x ∷ xs) = ap (λ (r : Bytes). x ∷ r) (map_some xs)

row_image : (xs : Bytes) → length xs ≡ 16 → map or_erased (row_cells xs) ≡ xs
unfolding row_cells or_erased
row_image xs l = go (erased xs) refl
  where
    go : (b : Bool) → erased xs ≡ b → map or_erased (elim b as (λ j. Cells) [ true ↦ replicate 16 none | false ↦ map some xs ]) ≡ xs
    go true e = sym (erased_is_lem xs e ∙ ap (λ (n : ℕ). replicate {A = ℕ} n 255) l)
    go false e = map_some xs

cells_image : (k : ℕ) (s : Bytes) → length s ≡ 16 * k → map or_erased (cells_of k s) ≡ s
unfolding cells_of
cells_image zero [] l = refl
cells_image zero (x ∷ s) l = absurd (omega arith)
cells_image (suc k) s l =
    map_append (row_cells (take 16 s)) (cells_of k (drop 16 s))
    ∙ ap (λ (r : Bytes). r ++ map or_erased (cells_of k (drop 16 s))) (row_image (take 16 s) (length-take-le 16 s (omega arith)))
    ∙ ap (λ (r : Bytes). take 16 s ++ r) (cells_image k (drop 16 s) (omega (arith, length-drop 16 s)))
    ∙ take-append-drop 16 s

-- ---- the rows, read
end_read : (p : Cells) → reading (lines_of end_line) p ≡ Ok p
unfolding end_line text record_of is_formed all is_hex value is_digit count record_bytes bytes_of is_full_end kind is_summed sum is_none lines_of push
end_read p = reading_end (text ":00000001FF") [] p refl

module _ (a k : ℕ) (s : Bytes) (p : Cells) (rest : Bytes) (l : length s ≡ 16 * suc k) (bytes : AreBytes s) (la : length p ≡ a) (fits : a + 16 * suc k ≤ 65536) where
  row_long : length (take 16 s) ≡ 16
  row_long = length-take-le 16 s (omega arith)

  row_bytes_lem : AreBytes (take 16 s)
  row_bytes_lem i = go (dec_lt i 16)
    where
      go : Dec (i < 16) → get_or (take 16 s) i 0 < 256
      go (yes h) = subst (λ (x : ℕ). x < 256) (sym (get_or-take 16 s i 0 h)) (bytes i)
      go (no h) = let e : length (take 16 s) ≤ i = omega (arith, row_long) in omega (arith, get_or-eq_default (take 16 s) 0 {n = i} e)

  apart : p ++ replicate (16 * suc k) none ≡ p ++ (replicate 16 none ++ replicate (16 * k) none)
  apart =
      let n : 16 + 16 * k ≡ 16 * suc k = omega arith in
      ap (λ (r : Cells). p ++ r) (sym (replicate-append-replicate 16 (16 * k) none ∙ ap (λ (j : ℕ). replicate j none) n))

  put_row : name a (take 16 s) (p ++ replicate (16 * suc k) none) ≡ (p ++ map some (take 16 s)) ++ replicate (16 * k) none
  unfolding name
  put_row =
      let m : length (map some (take 16 s)) ≡ 16 = length-map (take 16 s) some ∙ row_long in
      let c : Cells = p ++ (replicate 16 none ++ replicate (16 * k) none) in
      let n : a + length (map some (take 16 s)) ≡ length (p ++ replicate {A = Option ℕ} 16 none) = omega (arith, length-append p (replicate {A = Option ℕ} 16 none)) in
      let h : a + length (map some (take 16 s)) ≤ length c = omega (arith, length-append p (replicate {A = Option ℕ} 16 none ++ replicate (16 * k) none), length-append (replicate {A = Option ℕ} 16 none) (replicate (16 * k) none)) in
      let d : drop (a + length (map some (take 16 s))) c ≡ replicate (16 * k) none = ap (λ (r : Cells). drop (a + length (map some (take 16 s))) r) (sym (append_assoc p (replicate 16 none) (replicate (16 * k) none))) ∙ drop_at (p ++ replicate 16 none) (replicate (16 * k) none) (a + length (map some (take 16 s))) (sym n) in
      ap (λ (r : Cells). sets r a (map some (take 16 s))) apart
      ∙ sets-eq (map some (take 16 s)) c a h
      ∙ ap (λ (r : Cells). r ++ map some (take 16 s) ++ drop (a + length (map some (take 16 s))) c) (take_at p (replicate 16 none ++ replicate (16 * k) none) a la)
      ∙ ap (λ (r : Cells). p ++ map some (take 16 s) ++ r) d

  row_lines : lines_of (row_line a (take 16 s) ++ rest) ≡ body a (take 16 s) (omega arith) row_long row_bytes_lem ∷ lines_of rest
  row_lines =
      ap (λ (r : Bytes). lines_of (r ++ rest)) (row_body a (take 16 s) (omega arith) row_long row_bytes_lem)
      ∙ ap lines_of (append_assoc (body a (take 16 s) (omega arith) row_long row_bytes_lem) (lf ∷ []) rest)
      ∙ line_first (body a (take 16 s) (omega arith) row_long row_bytes_lem) rest (body_plain a (take 16 s) (omega arith) row_long row_bytes_lem)

  row_read : reading (lines_of (row_line a (take 16 s) ++ rest)) (p ++ replicate (16 * suc k) none) ≡ reading (lines_of rest) ((p ++ map some (take 16 s)) ++ replicate (16 * k) none)
  row_read =
      let cs : Cells = p ++ replicate (16 * suc k) none in
      let b : Bytes = body a (take 16 s) (omega arith) row_long row_bytes_lem in
      let i : a + 16 ≤ length cs = omega (arith, length-append p (replicate {A = Option ℕ} (16 * suc k) none), length-replicate {A = Option ℕ} (16 * suc k) none) in
      let z : length p + 0 ≡ a = omega arith in
      let f : is_taken a 16 cs ≡ false = ap (λ (j : ℕ). is_taken j 16 cs) (sym z) ∙ fresh 16 (16 * suc k) 0 p in
      ap (λ (ls : List Bytes). reading ls cs) row_lines
      ∙ reading_on b (lines_of rest) cs a 16 (row_record a (take 16 s) (omega arith) row_long row_bytes_lem) (is_inside a 16 cs (λ h. i)) f
      ∙ ap (λ (xs : Bytes). reading (lines_of rest) (name a xs cs)) (row_data a (take 16 s) (omega arith) row_long row_bytes_lem)
      ∙ ap (reading (lines_of rest)) put_row

drop_bytes : (s : Bytes) → AreBytes s → AreBytes (drop 16 s)
drop_bytes s h i = subst (λ (x : ℕ). x < 256) (sym (get_or-drop 16 s i 0)) (h (16 + i))

-- The rows from a on, read with what was named below a.
abbrev RowsRead : ℕ → ℕ → Bytes → Cells → Type 0
RowsRead k a s p = reading (lines_of (rows_text k a s ++ end_line)) (p ++ replicate (16 * k) none) ≡ Ok (p ++ cells_of k s)

module _ (k a : ℕ) (s : Bytes) (p : Cells) (l : length s ≡ 16 * suc k) (h : AreBytes s) (la : length p ≡ a) (f : a + 16 * suc k ≤ 65536) (ih : (q : Cells) → length q ≡ a + 16 → RowsRead k (a + 16) (drop 16 s) q) where
  abbrev rest : Bytes
  rest = rows_text k (a + 16) (drop 16 s) ++ end_line

  -- the rows behind, from what is named by the first on
  then : (q : Cells) → length q ≡ 16 → q ≡ row_cells (take 16 s) → reading (lines_of (rows_text k (a + 16) (drop 16 s) ++ end_line)) ((p ++ q) ++ replicate (16 * k) none) ≡ Ok (p ++ (row_cells (take 16 s) ++ cells_of k (drop 16 s)))
  then q lq e =
      ih (p ++ q) (omega (arith, length-append p q))
      ∙ ap (λ (r : Cells). Ok r) (append_assoc p q (cells_of k (drop 16 s)) ∙ ap (λ (r : Cells). p ++ (r ++ cells_of k (drop 16 s))) e)

  blank_turn : erased (take 16 s) ≡ true → RowsRead (suc k) a s p
  unfolding rows_text cells_of row_text row_cells
  blank_turn e =
      let t : row_text a (take 16 s) ≡ [] = rw (e, row_text) in
      let c : replicate 16 none ≡ row_cells (take 16 s) = rw (e, row_cells) in
      ap (λ (r : Bytes). reading (lines_of ((r ++ rows_text k (a + 16) (drop 16 s)) ++ end_line)) (p ++ replicate (16 * suc k) none)) t
      ∙ ap (reading (lines_of (rows_text k (a + 16) (drop 16 s) ++ end_line))) (apart a k s p rest l h la f ∙ sym (append_assoc p (replicate 16 none) (replicate (16 * k) none)))
      ∙ then (replicate 16 none) refl c

  row_turn : erased (take 16 s) ≡ false → RowsRead (suc k) a s p
  unfolding rows_text cells_of row_text row_cells
  row_turn e =
      let t : row_text a (take 16 s) ≡ row_line a (take 16 s) = rw (e, row_text) in
      let c : map some (take 16 s) ≡ row_cells (take 16 s) = rw (e, row_cells) in
      ap (λ (r : Bytes). reading (lines_of ((r ++ rows_text k (a + 16) (drop 16 s)) ++ end_line)) (p ++ replicate (16 * suc k) none)) t
      ∙ ap (λ (r : Bytes). reading (lines_of r) (p ++ replicate (16 * suc k) none)) (append_assoc (row_line a (take 16 s)) (rows_text k (a + 16) (drop 16 s)) end_line)
      ∙ row_read a k s p rest l h la f
      ∙ then (map some (take 16 s)) (length-map (take 16 s) some ∙ row_long a k s p rest l h la f) c

  turn : (b : Bool) → erased (take 16 s) ≡ b → RowsRead (suc k) a s p
  turn true e = blank_turn e
  turn false e = row_turn e

rows_read : (k a : ℕ) (s : Bytes) (p : Cells) → length s ≡ 16 * k → AreBytes s → length p ≡ a → a + 16 * k ≤ 65536 → RowsRead k a s p
unfolding rows_text cells_of
rows_read zero a s p l h la f = ap (reading (lines_of end_line)) (append-nil p) ∙ end_read p ∙ ap (λ (r : Cells). Ok r) (sym (append-nil p))
rows_read (suc k) a s p l h la f =
    turn k a s p l h la f (λ q lq. rows_read k (a + 16) (drop 16 s) q (omega (arith, length-drop 16 s)) (drop_bytes s h) lq (omega arith)) (erased (take 16 s)) refl

-- ---- the whole
pub round : (g : Geometry) (s t : Bytes) → is_geometry g (length s) ≡ true → AreBytes s → length t ≡ length s → reads g (hex_text s) t ≡ record { number = 0; image = s }
unfolding reads settled read_text hex_text
round g s t e h l =
    let w = rows_whole g (length s) e in
    let k : ℕ = length s / 16 in
    let n : read_text (hex_text s) (length t) ≡ Ok (cells_of (length s / 16) s) = ap (λ (j : ℕ). reading (lines_of (hex_text s)) (replicate j none)) (l ∙ w.0) ∙ rows_read (length s / 16) 0 s [] w.0 h refl (omega (arith, w.0, w.1)) in
    rw (ap (is_geometry g) l ∙ e, n, cells_image (length s / 16) s w.0)
