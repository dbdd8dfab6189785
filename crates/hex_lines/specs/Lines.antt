-- The lines of a text: the first of them, by where the first line feed stands, and those behind it.
use Rattle.std.specs.Prelude.{◌≡◌, refl, Option, Some, None, unwrap_or, MatchOption, Bool, true, false, cond, ◌&&◌, [], ◌∷◌, ℕ, zero, suc, ◌+◌, ◌-◌, ◌≤◌, ◌<◌, eqb, length, get_or, take, drop}
use Rattle.std.proofs.Common.{ap, ◌∙◌, arith, ltb, ltb-true, drop_of_length-le, take_all, length-drop}
use Rattle.std.proofs.Math.Seq.{take-nil}
use Rattle.std.proofs.lemmas.Bool.{and_right, ltb-false, eqb-false}
use Rattle.std.specs.Cmp.Lexicographic.{pointwise}
use Rattle.std.specs.List.{position, position_or_len}
use denote.Ref.{Bor}
use Rattle.rules.specs.Flash.{Bytes}
use Rattle.rules.specs.Text.{lf}
use Rattle.hex_lines.specs.Records.{cr, lines_of, push}

module _ (c : ℕ) (s : Bytes) where
  pub lines_feed : eqb c lf ≡ true → lines_of (c ∷ s) ≡ [] ∷ lines_of s
  unfolding lines_of
  lines_feed e = rw (e, lines_of)

  pub lines_return : eqb c lf ≡ false → eqb c cr && eqb (get_or s 0 0) lf ≡ true → lines_of (c ∷ s) ≡ lines_of s
  unfolding lines_of
  lines_return e f = rw (e, f, lines_of)

  pub lines_more : eqb c lf ≡ false → eqb c cr && eqb (get_or s 0 0) lf ≡ false → lines_of (c ∷ s) ≡ push c (lines_of s)
  unfolding lines_of
  lines_more e f = rw (e, f, lines_of)

-- A line without the carriage return at its end.
unfoldable pub stripped : Bytes → Bytes
stripped [] = []
stripped (c ∷ []) = cond (eqb c cr) [] (c ∷ [])
stripped (c ∷ (d ∷ l)) = c ∷ stripped (d ∷ l)

-- How many characters stand before the first line feed.
abbrev pub feed : Bytes → ℕ
feed s = position_or_len (λ c. eqb c lf) s

feed_now : (c : ℕ) (s : Bytes) → eqb c lf ≡ true → feed (c ∷ s) ≡ 0
feed_now c s e = rw e

feed_later : (c : ℕ) (s : Bytes) → eqb c lf ≡ false → feed (c ∷ s) ≡ suc (feed s)
feed_later c s e = rw e (omega arith)

feed_first : (s : Bytes) → feed s ≡ 0 → 0 < length s → eqb (get_or s 0 0) lf ≡ true
feed_first [] z h = absurd (omega arith)
feed_first (c ∷ s) z h = go (eqb c lf) refl
  where
    go : (b : Bool) → eqb c lf ≡ b → eqb c lf ≡ true
    go true e = e
    go false e = absurd (omega (arith, feed_later c s e))

feed_behind : (s : Bytes) → 0 < feed s → eqb (get_or s 0 0) lf ≡ false
feed_behind [] z = refl
feed_behind (c ∷ s) z = go (eqb c lf) refl
  where
    go : (b : Bool) → eqb c lf ≡ b → eqb c lf ≡ false
    go true e = absurd (omega (arith, feed_now c s e))
    go false e = e

-- The line that a line feed ends, and the lines behind it.
line_fed : (s : Bytes) (n : ℕ) → feed s ≡ n → n < length s → lines_of s ≡ stripped (take n s) ∷ lines_of (drop (n + 1) s)
unfolding stripped push
line_fed [] n z h = absurd (omega arith)
line_fed (c ∷ s) zero z h = lines_feed c s (feed_first (c ∷ s) z h)
line_fed (c ∷ s) (suc zero) z h = go (eqb c cr) refl (λ f l. line_fed s zero f l)
  where
    other : eqb c lf ≡ false
    other = feed_behind (c ∷ s) (omega arith)

    fed : feed s ≡ 0
    fed = omega (arith, feed_later c s other)

    go : (b : Bool) → eqb c cr ≡ b → (feed s ≡ 0 → 0 < length s → lines_of s ≡ [] ∷ lines_of (drop 1 s)) → lines_of (c ∷ s) ≡ cond (eqb c cr) [] (c ∷ []) ∷ lines_of (drop 1 s)
    go true q next = rw q (lines_return c s other (rw q (feed_first s fed (omega arith))) ∙ next fed (omega arith))
    go false q next = rw q (lines_more c s other (rw q) ∙ ap (push c) (next fed (omega arith)))
line_fed (c ∷ []) (suc (suc k)) z h = absurd (omega arith)
line_fed (c ∷ (d ∷ r)) (suc (suc k)) z h =
    let other : eqb c lf ≡ false = feed_behind (c ∷ (d ∷ r)) (omega arith) in
    let fed : feed (d ∷ r) ≡ suc k = omega (arith, feed_later c (d ∷ r) other) in
    let n : suc (suc k) + 1 ≡ suc (suc k + 1) = omega arith in
    rw n (lines_more c (d ∷ r) other (and_right (eqb c cr) (eqb d lf) (feed_behind (d ∷ r) (omega arith))) ∙ ap (push c) (line_fed (d ∷ r) (suc k) fed (omega arith)))

-- A text without a line feed is one line.
line_last : (s : Bytes) → length s ≤ feed s → 0 < length s → lines_of s ≡ s ∷ []
unfolding push lines_of
line_last [] h p = absurd (omega arith)
line_last (c ∷ []) h p = lines_more c [] (feed_behind (c ∷ []) (omega arith)) (and_right (eqb c cr) false refl)
line_last (c ∷ (d ∷ s)) h p =
    let other : eqb c lf ≡ false = feed_behind (c ∷ (d ∷ s)) (omega arith) in
    let long : length (d ∷ s) ≤ feed (d ∷ s) = omega (arith, feed_later c (d ∷ s) other) in
    lines_more c (d ∷ s) other (and_right (eqb c cr) (eqb d lf) (feed_behind (d ∷ s) (omega arith))) ∙ ap (push c) (line_last (d ∷ s) long (omega arith))

-- ---- what `position` and `strip_suffix` say
pub no_line : (s : Bytes) → length s ≡ 0 → lines_of s ≡ []
unfolding lines_of
no_line [] e = refl
no_line (c ∷ s) e = absurd (omega arith)

pub line_alone : (s : Bytes) → position (λ c. eqb c lf) s ≡ None → eqb (length s) 0 ≡ false → lines_of s ≡ s ∷ lines_of (take (length s - length s) (drop (length s) s))
unfolding lines_of
line_alone s e n = let all : length s ≤ length s = omega arith in rw (drop_of_length-le s all, take-nil) (go (ltb (feed s) (length s)) refl e)
  where
    go : (b : Bool) → ltb (feed s) (length s) ≡ b → cond b (Some (feed s)) None ≡ None → lines_of s ≡ s ∷ []
    go true q f = absurd (cc)
    go false q f = line_last s (ltb-false (feed s) (length s) q) (omega (arith, eqb-false (length s) 0 n))

pub line_ended : (s l : Bytes) (n : ℕ) → position (λ c. eqb c lf) s ≡ Some n → l ≡ stripped (take n s) → lines_of s ≡ l ∷ lines_of (take (length s - (n + 1)) (drop (n + 1) s))
line_ended s l n e q = go (ltb (feed s) (length s)) refl e
  where
    go : (b : Bool) → ltb (feed s) (length s) ≡ b → cond b (Some (feed s)) None ≡ Some n → lines_of s ≡ l ∷ lines_of (take (length s - (n + 1)) (drop (n + 1) s))
    go true r f =
        let z : feed s ≡ n = cc in
        rw (q, take_all (length s - (n + 1)) (drop (n + 1) s) (omega (arith, length-drop (n + 1) s))) (line_fed s n z (omega (arith, ltb-true (feed s) (length s) r)))
    go false r f = absurd (cc)

last_one : (c x : ℕ) (b : Bool) → pointwise eqb (c ∷ []) (x ∷ []) ≡ b → eqb c x ≡ b
last_one c x b e = go (eqb c x) e
  where
    go : (v : Bool) → v && true ≡ b → v ≡ b
    go true e = e
    go false e = e

stripped_return : (l : Bytes) → pointwise eqb (drop (length l - 1) l) (cr ∷ []) ≡ true → take (length l - 1) l ≡ stripped l
unfolding stripped
stripped_return [] e = refl
stripped_return (c ∷ []) e = rw (last_one c cr true e)
stripped_return (c ∷ (d ∷ l)) e =
    let n : suc (suc (length l)) - 1 ≡ suc (suc (length l) - 1) = omega arith in
    rw n (ap (λ (r : Bytes). c ∷ r) (stripped_return (d ∷ l) (rw n at e)))

stripped_other : (l : Bytes) → pointwise eqb (drop (length l - 1) l) (cr ∷ []) ≡ false → l ≡ stripped l
unfolding stripped
stripped_other [] e = refl
stripped_other (c ∷ []) e = rw (last_one c cr false e)
stripped_other (c ∷ (d ∷ l)) e =
    let n : suc (suc (length l)) - 1 ≡ suc (suc (length l) - 1) = omega arith in
    ap (λ (r : Bytes). c ∷ r) (stripped_other (d ∷ l) (rw n at e))

pub stripped_as : (l : Bytes) (o : Option (Bor Bytes)) (d : Bor Bytes) → d.now ≡ l
    → MatchOption o (pointwise eqb (drop (length l - 1) l) (cr ∷ []) ≡ false) (λ x. (pointwise eqb (drop (length l - 1) l) (cr ∷ []) ≡ true) × (x.now ≡ take (length l - 1) l) × (length x.now + 1 ≡ length l))
    → (unwrap_or o d).now ≡ stripped l
stripped_as l None d e h = e ∙ stripped_other l h
stripped_as l (Some x) d e h = h.1 ∙ stripped_return l h.0
