-- A row's record and line, and the lines of all rows.
use Rattle.std.specs.Prelude.{◌≡◌, refl, Bool, true, false, ◌&&◌, eqb, [], ◌∷◌, ◌++◌, List, ℕ, zero, suc, ◌+◌, ◌-◌, ◌*◌, ◌/◌, ◌%◌, ◌≤◌, ◌<◌, get_or, take, drop, set, replicate, fold}
use Rattle.std.proofs.Common.{sym, ap, ◌∙◌, append_assoc, append-nil, add-zero, add-one, arith, take-suc, take_all, drop-drop}
use borrow.Author.Tests.{lt-ltb, le-ltb, le-leb, lt-leb}
use Rattle.std.proofs.Math.ListN.{length, length-append}
use Rattle.std.proofs.Math.Seq.{length-take-le}
use Rattle.std.proofs.lemmas.List.{set_at, take_at, drop_at}
use Rattle.std.proofs.lemmas.Bool.Decides.{nat_tests}
use Rattle.rules.specs.Lists.{all}
use Rattle.hex_lines.specs.Digits.{digits_long}
use Rattle.std.specs.List.{list_all}
use borrow.Rule.Slice.PartMut.{put_mid}
use Rattle.std.specs.Simd.{first_chunks}
use Rattle.rules.specs.Flash.{Bytes, erased, is_geometry}
use Rattle.rules.specs.Text.{text, lf}
use Rattle.hex_lines.specs.Records.{colon, sum}
use Rattle.hex_lines.specs.Writes.{digit, digits_of, checksum, row_bytes, row_line, row_text, rows_text, end_line, hex_text, room_for, Output, writes}
use Rattle.hex_lines.specs.Sizes.{rows_whole}
use Rattle.rules.specs.declared.Geometry.{Geometry}

-- The bytes of a row's record, with its checksum.
unfoldable pub record_of_row : ℕ → Bytes → Bytes
record_of_row a xs = row_bytes a xs ++ (checksum (row_bytes a xs) ∷ [])

-- The lines of rows at ascending addresses, from a on.
unfoldable pub lines_of_rows : ℕ → List Bytes → Bytes
lines_of_rows a [] = []
lines_of_rows a (r ∷ rs) = row_text a r ++ lines_of_rows (a + 16) rs

pub rows_are : (k a : ℕ) (s : Bytes) → rows_text k a s ≡ lines_of_rows a (first_chunks 16 k s)
unfolding rows_text lines_of_rows
rows_are zero a s = refl
rows_are (suc k) a s = ap (λ (r : Bytes). row_text a (take 16 s) ++ r) (rows_are k (a + 16) (drop 16 s))

pub lines_push : (rs : List Bytes) (a : ℕ) (r : Bytes) → lines_of_rows a (rs ++ (r ∷ [])) ≡ lines_of_rows a rs ++ row_text (a + 16 * length rs) r
unfolding lines_of_rows
lines_push [] a r = rw (add-zero a) (append-nil (row_text a r))
lines_push (x ∷ rs) a r =
    let n : a + 16 + 16 * length rs ≡ a + 16 * suc (length rs) = omega arith in
    rw (lines_push rs (a + 16) r, n, append_assoc)

-- ---- digits and sums of two texts
pub digits_append : (xs ys : Bytes) → digits_of (xs ++ ys) ≡ digits_of xs ++ digits_of ys
unfolding digits_of
digits_append [] ys = refl
digits_append (x ∷ xs) ys = ap (λ (r : Bytes). digit (x / 16) ∷ (digit (x % 16) ∷ r)) (digits_append xs ys)

-- ---- a digit
module _ (v : ℕ) where
  pub digit_low : v < 10 → 48 + v ≡ digit v
  unfolding digit
  digit_low h = rw (lt-ltb v 10 h)

  pub digit_high : 10 ≤ v → 55 + v ≡ digit v
  unfolding digit
  digit_high h = rw (le-ltb v 10 h)

-- ---- a sum modulo 256, byte by byte
sum_folds : (xs : Bytes) (t : ℕ) → fold (λ s b. (s + b) % 256) (t % 256) xs ≡ (t + sum xs) % 256
unfolding sum
sum_folds [] t = omega arith
sum_folds (x ∷ xs) t =
    let e : (t % 256 + x) % 256 ≡ (t + x) % 256 = omega arith in
    let f : t + x + sum xs ≡ t + (x + sum xs) = omega arith in
    rw (e, sum_folds xs (t + x), f)

pub checksum_is : (xs : Bytes) (t r : ℕ) → t ≡ fold (λ s b. (s + b) % 256) 0 xs → t < 256 → r < 256 → (r + t) % 256 ≡ 0 → r ≡ checksum xs
unfolding checksum
checksum_is xs t r e h k z =
    let f : 0 + sum xs ≡ sum xs = omega arith in
    let g : t ≡ sum xs % 256 = rw f at (e ∙ sum_folds xs 0) in
    omega arith

-- ---- a row's line, digit by digit
pub line_more : (xs : Bytes) (k x y : ℕ) (l : Bytes) → k < 21 → length xs ≡ 21 → x ≡ digit (get_or xs k 0 / 16) → y ≡ digit (get_or xs k 0 % 16)
    → l ≡ colon ∷ (digits_of (take k xs) ++ replicate (43 - 2 * k) lf) → set (set l (2 * k + 1) x) (2 * k + 2) y ≡ colon ∷ (digits_of (take (k + 1) xs) ++ replicate (43 - 2 * (k + 1)) lf)
unfolding digits_of
line_more xs k x y l h n p q e =
    let front : Bytes = colon ∷ digits_of (take k xs) in
    let rest : Bytes = replicate (43 - 2 * (k + 1)) lf in
    let r : 43 - 2 * k ≡ suc (suc (43 - 2 * (k + 1))) = omega arith in
    let len : length front ≡ 2 * k + 1 = omega (arith, digits_long (take k xs), length-take-le k xs (omega arith)) in
    let len_more : length (front ++ (x ∷ [])) ≡ 2 * k + 2 = omega (arith, length-append front (x ∷ []), len) in
    let last : take (k + 1) xs ≡ take k xs ++ (get_or xs k 0 ∷ []) = ap (λ (j : ℕ). take j xs) (add-one k) ∙ take-suc xs k 0 (omega arith) in
    let digits : digits_of (take (k + 1) xs) ≡ digits_of (take k xs) ++ (x ∷ (y ∷ [])) = ap digits_of last ∙ digits_append (take k xs) (get_or xs k 0 ∷ []) ∙ rw (p, q) in
    ap (λ (s : Bytes). set (set s (2 * k + 1) x) (2 * k + 2) y) (e ∙ ap (λ (j : ℕ). front ++ replicate j lf) r)
    ∙ ap (λ (s : Bytes). set s (2 * k + 2) y) (set_at front lf (lf ∷ rest) x (2 * k + 1) len ∙ sym (append_assoc front (x ∷ []) (lf ∷ rest)))
    ∙ set_at (front ++ (x ∷ [])) lf rest y (2 * k + 2) len_more
    ∙ append_assoc front (x ∷ []) (y ∷ rest)
    ∙ ap (λ (s : Bytes). colon ∷ s) (sym (append_assoc (digits_of (take k xs)) (x ∷ (y ∷ [])) rest) ∙ ap (λ (s : Bytes). s ++ rest) (sym digits))

pub line_all : (a k : ℕ) (row xs l : Bytes) → xs ≡ record_of_row a row → 21 ≤ k → k ≤ 21 → length xs ≡ 21 → l ≡ colon ∷ (digits_of (take k xs) ++ replicate (43 - 2 * k) lf) → l ≡ row_line a row
unfolding row_line record_of_row
line_all a k row xs l e h b n f =
    let r : 43 - 2 * k ≡ 1 = omega arith in
    f ∙ rw (r, take_all k xs (omega arith), e)

-- ---- a row's record
pub record_length : (a : ℕ) (row : Bytes) → length row ≡ 16 → length (record_of_row a row) ≡ 21
unfolding record_of_row row_bytes
record_length a row n = omega (arith, length-append row (checksum (16 ∷ (a / 256 ∷ (a % 256 ∷ (0 ∷ row)))) ∷ []))

-- ---- a row that is all FF
erased_is : (xs : Bytes) → list_all (λ b. eqb b 255) xs ≡ erased xs
unfolding erased all
erased_is [] = refl
erased_is (x ∷ xs) = rw (same x, erased_is xs) (go (eqb 255 x))
  where
    same : (x : ℕ) → eqb x 255 ≡ eqb 255 x
    same x = grind (arith, nat_tests)

    go : (b : Bool) → b && all (eqb 255) xs ≡ (elim b as (λ j. Bool) [ true ↦ all (eqb 255) xs | false ↦ false ])
    go true = refl
    go false = refl

pub erased_all : (xs : Bytes) (r : Bool) → r ≡ list_all (λ b. eqb b 255) xs → r ≡ erased xs
erased_all xs r e = e ∙ erased_is xs

-- ---- the text so far
-- In place of what stood in the buffer from `at` on: x, and the rest as it was.
pub written : (init t x y s : Bytes) (at k n : ℕ) → y ≡ x → k ≡ n → at ≡ length t → s ≡ t ++ drop at init → put_mid at k s y ≡ (t ++ x) ++ drop (at + n) init
written init t x y s at k n p q e f =
    let front : take at s ≡ t = ap (take at) f ∙ take_at t (drop at init) at (sym e) in
    let back : drop at s ≡ drop at init = ap (drop at) f ∙ drop_at t (drop at init) at (sym e) in
    rw (p, q, front, back, drop-drop n at init) (sym (append_assoc t x (drop (at + n) init)))

module _ (rows : List Bytes) (n : ℕ) (h : n < length rows) where
  step : lines_of_rows 0 (take (n + 1) rows) ≡ lines_of_rows 0 (take n rows) ++ row_text (16 * n) (get_or rows n [])
  step =
      let l : 0 + 16 * length (take n rows) ≡ 16 * n = omega (arith, length-take-le n rows (omega arith)) in
      ap (λ (j : ℕ). lines_of_rows 0 (take j rows)) (add-one n) ∙ ap (lines_of_rows 0) (take-suc rows n [] h) ∙ lines_push (take n rows) 0 (get_or rows n [])
      ∙ ap (λ (a : ℕ). lines_of_rows 0 (take n rows) ++ row_text a (get_or rows n [])) l

  pub step_blank : erased (get_or rows n []) ≡ true → lines_of_rows 0 (take (n + 1) rows) ≡ lines_of_rows 0 (take n rows)
  unfolding row_text
  step_blank e = step ∙ rw (e, row_text) (append-nil (lines_of_rows 0 (take n rows)))

  pub step_row : erased (get_or rows n []) ≡ false → lines_of_rows 0 (take (n + 1) rows) ≡ lines_of_rows 0 (take n rows) ++ row_line (16 * n) (get_or rows n [])
  unfolding row_text
  step_row e = step ∙ rw (e, row_text)

pub line_length : (a : ℕ) (row : Bytes) → length row ≡ 16 → length (row_line a row) ≡ 44
unfolding row_line row_bytes
line_length a row n =
    let b : Bytes = 16 ∷ (a / 256 ∷ (a % 256 ∷ (0 ∷ row))) in
    omega (arith, digits_long (b ++ (checksum b ∷ [])), length-append b (checksum b ∷ []), length-append (digits_of (b ++ (checksum b ∷ []))) (lf ∷ []))

-- ---- a row's record
pub record_built : (a c : ℕ) (row first other : Bytes) → length row ≡ 16 → first ≡ 16 ∷ (a / 256 ∷ (a % 256 ∷ (0 ∷ []))) → other ≡ row
    → c ≡ checksum (take 20 (put_mid 4 16 (first ++ replicate 17 0) other)) → set (put_mid 4 16 (first ++ replicate 17 0) other) 20 c ≡ record_of_row a row
unfolding record_of_row row_bytes
record_built a c row first other n e f g =
    let front : Bytes → Bytes = λ (r : Bytes). 16 ∷ (a / 256 ∷ (a % 256 ∷ (0 ∷ r))) in
    let h : c ≡ checksum (front (take 16 (row ++ (0 ∷ [])))) = rw (e, f) at g in
    let k : c ≡ checksum (front row) = h ∙ ap (λ (r : Bytes). checksum (front r)) (take_at row (0 ∷ []) 16 n) in
    rw (e, f) (ap front (set_at row 0 [] c 16 n ∙ ap (λ (x : ℕ). row ++ (x ∷ [])) k))

-- ---- the whole
end_length : length end_line ≡ 12
unfolding end_line text
end_length = refl

module _ (g : Geometry) (s b : Bytes) where
  told : (r : Output) → writes g s b ≡ r → (r.number ≡ (writes g s b).number) × (r.length ≡ (writes g s b).length) × (r.buffer ≡ (writes g s b).buffer)
  told r e = (sym (ap (λ (x : Output). x.number) e), sym (ap (λ (x : Output). x.length) e), sym (ap (λ (x : Output). x.buffer) e))

  pub write_other : is_geometry g (length s) ≡ false → (2 ≡ (writes g s b).number) × (0 ≡ (writes g s b).length) × (b ≡ (writes g s b).buffer)
  unfolding writes
  write_other e = told (record { number = 2; length = 0; buffer = b }) (rw e)

  module _ (e : is_geometry g (length s) ≡ true) where
    pub rows_few : length s / 16 ≤ 4096
    rows_few = let h = rows_whole g (length s) e in omega (arith, h.1)

    pub write_short : length b < 44 * (length s / 16) + 12 → (2 ≡ (writes g s b).number) × (0 ≡ (writes g s b).length) × (b ≡ (writes g s b).buffer)
    unfolding writes room_for
    write_short h = told (record { number = 2; length = 0; buffer = b }) (rw (e, lt-leb (44 * (length s / 16) + 12) (length b) h))

    pub write_done : 44 * (length s / 16) + 12 ≤ length b → (rows : List Bytes) (u : Bytes) (at : ℕ) → rows ≡ first_chunks 16 (length s / 16) s → at ≡ length (lines_of_rows 0 rows)
        → u ≡ (lines_of_rows 0 rows ++ end_line) ++ drop (at + 12) b → (0 ≡ (writes g s b).number) × (at + 12 ≡ (writes g s b).length) × (u ≡ (writes g s b).buffer)
    unfolding writes room_for hex_text
    write_done h rows u at q n f =
        let r : rows_text (length s / 16) 0 s ≡ lines_of_rows 0 rows = rows_are (length s / 16) 0 s ∙ ap (lines_of_rows 0) (sym q) in
        let m : length (lines_of_rows 0 rows ++ end_line) ≡ at + 12 = omega (arith, length-append (lines_of_rows 0 rows) end_line, end_length) in
        told (record { number = 0; length = at + 12; buffer = u }) (rw (e, le-leb (44 * (length s / 16) + 12) (length b) h, r, m, f))
