-- The texts, by what was found of the input.
use Rattle.std.specs.Prelude.{◌≡◌, refl, Bool, true, false, cond, [], ◌++◌, Result, Ok, Err, MatchResult, None, ℕ, suc, ◌*◌, ◌≤◌, ◌<◌, ltb, length, take, drop, replicate, Some, ok_or, Option as Maybe}
use Rattle.std.proofs.Math.Path.{sym, ap}
use Rattle.std.proofs.Common.{◌∙◌, arith, take_all, length-take-le}
use Rattle.std.proofs.Math.Option.{Option, none, some}
use Rattle.std.proofs.Math.Decide.{dec_le}
use borrow.Author.Tests.{lt-ltb, le-ltb}
use Rattle.std.proofs.Math.ListN.{length-append, length-replicate}
use Rattle.std.proofs.Math.Seq.{take_at}
use Rattle.rules.specs.Flash.{Bytes, is_geometry}
use Rattle.rules.specs.Text.{Parsed, line}
use Rattle.rules.specs.declared.Geometry.{Geometry}
use Rattle.laws.specs.Units.{right_geometry}
use Rattle.text.specs.Says.{Heads, HasLines}
use Rattle.hex_lines.specs.declared.HexFault.{HexFault}
use Rattle.hex_lines.specs.declared.HexFault.TheVariants.{BadGeometry, BadLine, BadChecksum, BadType, Outside, NamedTwice, NoEnd}
use Rattle.hex_lines.specs.Faults.{number, number_of, length_of}
use Rattle.hex_lines.specs.Sizes.{rows_whole}
use Rattle.hex_lines.specs.Writes.{hex_text, room_for, Output, writes}
use Rattle.hex_laws.specs.Answers.{writes_text, writes_two}
use Rattle.hex_input.specs.Programs.{refusal, headed_as, headed_with, headed, as_text, to_hex, from_text, from_hex}

-- The first r bytes of the buffer are the text x.
pub record Printed (x buffer : Bytes) (r : ℕ) : Type 0 where
  pub text : take r buffer ≡ x
  pub inside : r ≤ length buffer

pub printed_as : {x y buffer : Bytes} {r : ℕ} → x ≡ y → Printed x buffer r → Printed y buffer r
printed_as e p = record { text = p.text ∙ e; inside = p.inside }

pub printed_whole : {x buffer : Bytes} {r : ℕ} → Printed x buffer r → r ≡ length (take r buffer)
printed_whole {x} {buffer} {r} p = sym (length-take-le r buffer p.inside)

-- A text that stands first.
pub printed_first : {x : Bytes} (u v : Bytes) (n : ℕ) → u ≡ x → n ≡ length u → Printed x (u ++ v) n
printed_first u v n e l = record { text = take_at u v n (sym l) ∙ e; inside = omega (arith, l, length-append u v) }

-- What an outcome prints: so many bytes of the buffer, or its refusal's line.
abbrev pub Prints : Bytes → Bytes → Result ℕ HexFault → Type 0
Prints x buffer r = MatchResult r (Printed x buffer) (λ e. refusal (number e) ≡ x)

-- ---- the header
-- f refuses a geometry whose numbers are over 65,536.
abbrev pub Strict : (Geometry → Bytes → Bytes) → Type 0
Strict f = (g : Geometry) (s : Bytes) → (g.size ≤ 65536 → g.units ≤ 65536 → ⊥) → f g s ≡ refusal 2

module _ (f : Geometry → Bytes → Bytes) (s : Bytes) where
  -- No two such lines: refusal 2.
  headed_bad : Strict f → Heads s None [] → refusal 2 ≡ headed f s
  unfolding headed headed_with headed_as
  headed_bad strict h = go (line "unit=" s) refl
    where
      second : (p : Parsed) → line "unit=" s ≡ some p → (o : Option Parsed) → line "units=" p.rest ≡ o → refusal 2 ≡ headed_as f p.value o
      second p a none b = refl
      second p a (some q) b = sym (strict (record { size = p.value; units = q.value }) q.rest (λ x y. omega (arith, h p q a b x)))

      go : (o : Option Parsed) → line "unit=" s ≡ o → refusal 2 ≡ headed_with f o
      go none a = refl
      go (some p) a = second p a (line "units=" p.rest) refl

  -- Two lines: f of what they say.
  headed_rest : (g : Geometry) (rest : Bytes) → HasLines s rest g → f g rest ≡ headed f s
  unfolding headed headed_with headed_as
  headed_rest g rest l = sym (ap (headed_with f) l.size ∙ ap (headed_as f g.size) l.units)

-- ---- both programs refuse such geometries
small_numbers : (g : Geometry) (n : ℕ) → is_geometry g n ≡ true → (g.size ≤ 65536) × (g.units ≤ 65536)
small_numbers g n e =
    let o = right_geometry g (replicate n 0) (ap (is_geometry g) (length-replicate n 0) ∙ e) in
    (omega (arith, o.small), omega (arith, o.few))

strict_of : (x : Bytes) (g : Geometry) (n : ℕ) → (g.size ≤ 65536 → g.units ≤ 65536 → ⊥) → cond (is_geometry g n) x (refusal 2) ≡ refusal 2
strict_of x g n h = go (is_geometry g n) refl
  where
    go : (b : Bool) → is_geometry g n ≡ b → cond b x (refusal 2) ≡ refusal 2
    go true e = let w = small_numbers g n e in absurd (h w.0 w.1)
    go false e = refl

strict_text : Strict as_text
unfolding as_text
strict_text g s h = strict_of _ g (length s) h

strict_image : Strict from_text
unfolding from_text
strict_image g s h = strict_of _ g (g.units * g.size) h

-- ---- the whole input
cut : (f : Bytes → Bytes) (k : ℕ) (s : Bytes) → cond (ltb k (length (take (suc k) s))) (refusal 2) (f (take (suc k) s)) ≡ cond (ltb k (length s)) (refusal 2) (f s)
cut f k s = go (dec_le (suc k) (length s))
  where
    go : Dec (suc k ≤ length s) → cond (ltb k (length (take (suc k) s))) (refusal 2) (f (take (suc k) s)) ≡ cond (ltb k (length s)) (refusal 2) (f s)
    go (yes h) = rw (lt-ltb k (length s) h, lt-ltb k (length (take (suc k) s)) (omega (arith, length-take-le (suc k) s h)))
    go (no h) = ap (λ (r : Bytes). cond (ltb k (length r)) (refusal 2) (f r)) (take_all (suc k) s (omega arith))

-- The first 65,556 bytes of an input print as the whole of it, and the first 196,609.
pub to_cut : (s : Bytes) → to_hex (take 65556 s) ≡ to_hex s
unfolding to_hex
to_cut s = cut (headed as_text) 65555 s

pub from_cut : (s : Bytes) → from_hex (take 196609 s) ≡ from_hex s
unfolding from_hex
from_cut s = cut (headed from_text) 196608 s

-- Whatever is made of the geometry and of what follows, the input is refused with 2.
abbrev pub Refused : ℕ → Bytes → Type 0
Refused most s = (f : Geometry → Bytes → Bytes) → Strict f → refusal 2 ≡ cond (ltb most (length s)) (refusal 2) (headed f s)

-- An input of at most so many bytes says a geometry, and goes on with the rest; or it is refused with 2.
abbrev pub Headed : ℕ → Bytes → Result Geometry HexFault → Bytes → Type 0
Headed most s r rest = MatchResult r (λ g. (length s ≤ most) × HasLines s rest g) (λ e. (e ≡ BadGeometry) × Refused most s)

module _ (most : ℕ) (s : Bytes) where
  pub long_refused : most < length s → Refused most s
  long_refused h f strict = rw (lt-ltb most (length s) h)

  pub headed_or : (rest : Bytes) (o : Maybe Geometry) → length s ≤ most → Heads s o rest → Headed most s (ok_or o BadGeometry) rest
  headed_or rest None l h = (refl, λ f strict. rw (le-ltb most (length s) l) (headed_bad f s strict h))
  headed_or rest (Some g) l h = (l, h)

module _ (s : Bytes) where
  pub to_refused : Refused 65555 s → refusal 2 ≡ to_hex s
  unfolding to_hex
  to_refused h = h as_text strict_text

  pub from_refused : Refused 196608 s → refusal 2 ≡ from_hex s
  unfolding from_hex
  from_refused h = h from_text strict_image

  module _ (l : length s ≤ 65555) where
    pub to_rest : (g : Geometry) (rest : Bytes) → HasLines s rest g → as_text g rest ≡ to_hex s
    unfolding to_hex
    to_rest g rest m = rw (le-ltb 65555 (length s) l) (headed_rest as_text s g rest m)

  module _ (l : length s ≤ 196608) where
    pub from_rest : (g : Geometry) (rest : Bytes) → HasLines s rest g → from_text g rest ≡ from_hex s
    unfolding from_hex
    from_rest g rest m = rw (le-ltb 196608 (length s) l) (headed_rest from_text s g rest m)

-- ---- the outcomes
-- A refusal's number has two digits.
pub number_short : (e : HexFault) → (2 ≤ number e) × (number e ≤ 35)
number_short BadGeometry = (omega arith, omega arith)
number_short BadLine = (omega arith, omega arith)
number_short BadChecksum = (omega arith, omega arith)
number_short BadType = (omega arith, omega arith)
number_short Outside = (omega arith, omega arith)
number_short NamedTwice = (omega arith, omega arith)
number_short NoEnd = (omega arith, omega arith)

pub prints_as : {x y : Bytes} (buffer : Bytes) (r : Result ℕ HexFault) → x ≡ y → Prints x buffer r → Prints y buffer r
prints_as buffer (Ok n) e p = printed_as e p
prints_as buffer (Err k) e p = p ∙ e

module _ (g : Geometry) (s b : Bytes) (l : 180236 ≤ length b) where
  fits : (n : ℕ) → n ≤ 65536 → room_for n ≤ length b
  unfolding room_for
  fits n h = omega arith

  -- A write's outcome.
  pub text_prints : (r : Result ℕ HexFault) (u : Bytes) → number_of r ≡ (writes g s b).number → length_of r ≡ (writes g s b).length → u ≡ (writes g s b).buffer → Prints (as_text g s) u r
  unfolding as_text
  text_prints r u e f q = go (is_geometry g (length s)) refl r e f
    where
      go : (t : Bool) → is_geometry g (length s) ≡ t → (r : Result ℕ HexFault) → number_of r ≡ (writes g s b).number → length_of r ≡ (writes g s b).length → Prints (cond t (hex_text s) (refusal 2)) u r
      go true y r e f =
          let h = (rows_whole g (length s) y).1 in
          let w : writes g s b ≡ record { number = 0; length = length (hex_text s); buffer = hex_text s ++ drop (length (hex_text s)) b } = writes_text g s b y (fits (length s) h) in
          right r (e ∙ ap (λ (o : Output). o.number) w) (f ∙ ap (λ (o : Output). o.length) w) (q ∙ ap (λ (o : Output). o.buffer) w)
        where
          right : (r : Result ℕ HexFault) → number_of r ≡ 0 → length_of r ≡ length (hex_text s) → u ≡ hex_text s ++ drop (length (hex_text s)) b → Prints (hex_text s) u r
          right (Err k) e m x = absurd (omega (arith, e, (number_short k).0))
          right (Ok n) e m x = rw x (printed_first (hex_text s) _ n refl m)
      go false y r e f = other r (e ∙ ap (λ (o : Output). o.number) (writes_two g s b (rw y)))
        where
          other : (r : Result ℕ HexFault) → number_of r ≡ 2 → Prints (refusal 2) u r
          other (Err k) e = ap refusal e
          other (Ok n) e = absurd (omega (arith, e))
