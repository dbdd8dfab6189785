-- Words programmed in a unit's bytes: a blank descriptor filled, and the upper end of the gap.
use Rattle.std.specs.Prelude.{true, List, [], ◌++◌, ◌∷◌, ◌≡◌, refl, ◌%◌, ◌*◌, ◌+◌, ◌-◌, ◌/◌, ◌<◌, ◌≤◌, suc, zero, ℕ, length, replicate}
use Rattle.std.proofs.Common.{append_assoc, ◌∙◌, ap, sym, arith, length-append}
use Rattle.std.proofs.lemmas.List.{length-replicate, replicate-append-replicate}
use Rattle.rules.specs.Flash.{Bytes, finish, made, program, programs, words}
use Rattle.rules.specs.Unit.{Descriptor, blank, stands}
use Rattle.laws.specs.Frames.{and_erased}
use Rattle.theory.specs.Base.Facts.{all_cons, all_uncons, lt_of, ltb_of}
use Rattle.theory.specs.Base.Along.{le, programmed}
use Rattle.theory.specs.Images.Head.{Head, head_bytes}
use Rattle.theory.specs.Images.Layout.{are_bytes, array_bytes, before, is_byte, layout, layout_split, length_before}

-- a word that is erased, at the offset of what stands before it
pub write_word : (xs : Bytes) (a v : ℕ) (r : Bytes) → length xs ≡ a → v < 65536 → made (program a v) (xs ++ le 0xFFFF r) ≡ xs ++ le v r
write_word xs a v r e h =
    ap (λ (x : ℕ). made (program x v) (xs ++ le 0xFFFF r)) (sym e) ∙ programmed xs 0xFFFF v r ∙ ap (λ (w : ℕ). xs ++ le w r) (and_erased v h)

abbrev pub words_bytes : Bytes → Bytes → Bytes
words_bytes [] r = r
words_bytes (w ∷ ws) r = le w (words_bytes ws r)

abbrev pub blanks : ℕ → Bytes → Bytes
blanks zero r = r
blanks (suc k) r = le 0xFFFF (blanks k r)

pub blanks_over : (k : ℕ) (r : Bytes) → blanks k r ≡ blanks k [] ++ r
blanks_over zero r = refl
blanks_over (suc k) r = ap (λ (x : Bytes). le 0xFFFF x) (blanks_over k r)

pub words_over : (ws r : Bytes) → words_bytes ws r ≡ words_bytes ws [] ++ r
words_over [] r = refl
words_over (w ∷ ws) r = ap (λ (x : Bytes). le w x) (words_over ws r)

pub words_length : (ws r : Bytes) → length (words_bytes ws r) ≡ length ws * 2 + length r
words_length [] r = omega arith
words_length (w ∷ ws) r = omega (arith, words_length ws r)

abbrev pub SmallWords : Bytes → Type 0
SmallWords [] = Unit {0}
SmallWords (w ∷ ws) = (w < 65536) × SmallWords ws

pub snoc : (xs : Bytes) (w : ℕ) (r : Bytes) → xs ++ le w r ≡ (xs ++ le w []) ++ r
snoc xs w r = sym (append_assoc xs (le w []) r)

-- words one after another, where all is erased
pub write_words : (ws : Bytes) (xs : Bytes) (a : ℕ) (r : Bytes) → length xs ≡ a → SmallWords ws
    → finish (programs a ws) (xs ++ blanks (length ws) r) ≡ xs ++ words_bytes ws r
unfolding finish programs
write_words [] xs a r e h = refl
write_words (w ∷ ws) xs a r e h =
    ap (λ (s : Bytes). finish (programs (a + 2) ws) s) (write_word xs a w (blanks (length ws) r) e h.0 ∙ snoc xs w (blanks (length ws) r))
    ∙ write_words ws (xs ++ le w []) (a + 2) r longer h.1
    ∙ sym (snoc xs w (words_bytes ws r))
  where
    longer : length (xs ++ le w []) ≡ a + 2
    longer = length-append xs (le w []) ∙ ap (λ (x : ℕ). x + 2) e

abbrev pub four : Descriptor → Bytes
four e = e.flags ∷ e.offset ∷ e.len ∷ e.tag ∷ []

-- a blank descriptor, filled
pub fill_desc : (L st : ℕ) (head : Head) (xs : List Descriptor) (e : Descriptor) (ys : List Descriptor) (free : ℕ) (rest : Bytes) (a : ℕ) → a ≡ stands (length xs) → SmallWords (four e)
    → finish (programs a (four e)) (layout L st head (xs ++ blank ∷ ys) free rest) ≡ layout L st head (xs ++ e ∷ ys) free rest
unfolding blank
fill_desc L st head xs e ys free rest a q h =
    ap (λ (s : Bytes). finish (programs a (four e)) s) (layout_split L st head xs blank ys free rest)
    ∙ write_words (four e) (before L st head xs) a (array_bytes ys (replicate free 255 ++ rest)) (length_before L st head xs ∙ sym q) h
    ∙ sym (layout_split L st head xs e ys free rest)

pub blanks_replicate : (k : ℕ) (r : Bytes) → blanks k r ≡ replicate (k * 2) 255 ++ r
blanks_replicate zero r = refl
blanks_replicate (suc k) r = ap (λ (l : Bytes). 255 ∷ (255 ∷ l)) (blanks_replicate k r) ∙ ap (λ (n : ℕ). replicate n 255 ++ r) more
  where
    more : suc (suc (k * 2)) ≡ suc k * 2
    more = omega arith

pub array_over : (ds : List Descriptor) (r : Bytes) → array_bytes ds r ≡ array_bytes ds [] ++ r
array_over [] r = refl
array_over (d ∷ ds) r = ap (λ (l : Bytes). d.flags % 256 ∷ (d.flags / 256 ∷ (d.offset % 256 ∷ (d.offset / 256 ∷ (d.len % 256 ∷ (d.len / 256 ∷ (d.tag % 256 ∷ (d.tag / 256 ∷ l)))))))) (array_over ds r)

-- the upper end of the gap, filled
pub fill_gap : (L st : ℕ) (head : Head) (ds : List Descriptor) (free : ℕ) (rest : Bytes) (ws : Bytes) (a : ℕ) → length ws * 2 ≤ free → a ≡ stands (length ds) + free - length ws * 2 → SmallWords ws
    → finish (programs a ws) (layout L st head ds free rest) ≡ layout L st head ds (free - length ws * 2) (words_bytes ws rest)
fill_gap L st head ds free rest ws a fit q h =
    ap (λ (s : Bytes). finish (programs a ws) s) (whole (blanks (length ws) rest) apart')
    ∙ write_words ws front a rest len h
    ∙ sym (ap (λ (l : Bytes). le L (le st (head_bytes head l))) (array_over ds (replicate k 255 ++ words_bytes ws rest) ∙ sym (append_assoc (array_bytes ds []) (replicate k 255) (words_bytes ws rest))))
  where
    k : ℕ
    k = free - length ws * 2

    front : Bytes
    front = le L (le st (head_bytes head (array_bytes ds [] ++ replicate k 255)))

    apart' : replicate free 255 ++ rest ≡ replicate k 255 ++ blanks (length ws) rest
    apart' = ap (λ (n : ℕ). replicate n 255 ++ rest) sum ∙ ap (λ (l : Bytes). l ++ rest) (sym (replicate-append-replicate k (length ws * 2) 255))
        ∙ append_assoc (replicate k 255) (replicate (length ws * 2) 255) rest ∙ ap (λ (l : Bytes). replicate k 255 ++ l) (sym (blanks_replicate (length ws) rest))
      where
        sum : free ≡ k + length ws * 2
        sum = omega arith

    whole : (t : Bytes) → replicate free 255 ++ rest ≡ replicate k 255 ++ t → layout L st head ds free rest ≡ front ++ t
    whole t e = ap (λ (l : Bytes). le L (le st (head_bytes head (array_bytes ds l)))) e
        ∙ ap (λ (l : Bytes). le L (le st (head_bytes head l))) (array_over ds (replicate k 255 ++ t) ∙ sym (append_assoc (array_bytes ds []) (replicate k 255) t))

    len : length front ≡ a
    len = omega (arith, q, length_before L st head ds, length-append (array_bytes ds []) (replicate k 255), length-replicate {A = ℕ} k 255, ap length (array_over ds []))

-- ---- bytes
pub byte_word : (w : ℕ) (r : Bytes) → w < 65536 → are_bytes r ≡ true → are_bytes (le w r) ≡ true
byte_word w r h k =
    all_cons is_byte (w % 256) (w / 256 ∷ r) (ltb_of (w % 256) 256 (omega arith)) (all_cons is_byte (w / 256) r (ltb_of (w / 256) 256 (omega arith)) k)

pub byte_words : (ws r : Bytes) → SmallWords ws → are_bytes r ≡ true → are_bytes (words_bytes ws r) ≡ true
byte_words [] r h k = k
byte_words (w ∷ ws) r h k = byte_word w (words_bytes ws r) h.0 (byte_words ws r h.1 k)

-- the words of a content
pub words_even : (c : Bytes) → length (words c) * 2 ≡ length c + length c % 2
unfolding words
words_even [] = refl
words_even (a ∷ []) = refl
words_even (a ∷ (b ∷ r)) = omega (arith, words_even r)

pub words_small : (c : Bytes) → are_bytes c ≡ true → SmallWords (words c)
unfolding words
words_small [] h = tt
words_small (a ∷ []) h = (omega (arith, lt_of a 256 (all_uncons is_byte a [] h).0), tt)
words_small (a ∷ (b ∷ r)) h =
    let k = all_uncons is_byte b r (all_uncons is_byte a (b ∷ r) h).1 in
    (omega (arith, lt_of a 256 (all_uncons is_byte a (b ∷ r) h).0, lt_of b 256 k.0), words_small r k.1)

pub words_bytes_lem : (c r : Bytes) → are_bytes c ≡ true → length c % 2 ≡ 0 → words_bytes (words c) r ≡ c ++ r
unfolding words
words_bytes_lem [] r h e = refl
words_bytes_lem (a ∷ []) r h e = absurd (let z : ⊥ = omega (arith, e) in z)
words_bytes_lem (a ∷ (b ∷ c)) r h e = λ i. low i ∷ (high i ∷ words_bytes_lem c r (all_uncons is_byte b c (all_uncons is_byte a (b ∷ c) h).1).1 (omega (arith, e)) i)
  where
    small : a < 256
    small = lt_of a 256 (all_uncons is_byte a (b ∷ c) h).0

    low : (a + 256 * b) % 256 ≡ a
    low = omega (arith, small)

    high : (a + 256 * b) / 256 ≡ b
    high = omega (arith, small)
