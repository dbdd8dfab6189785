-- The script: its words, numbers and contents.
use Rattle.std.specs.Prelude.{Option, Some, None, option_and_then, cond, ◌&&◌, List, [], ◌∷◌, ◌++◌, ℕ, ◌+◌, ◌-◌, ◌*◌, eqb, leb, ltb, length}
use Rattle.std.specs.List.{slice_split}
use Rattle.rules.specs.Flash.{Bytes}
use Rattle.rules.specs.Text.{is_digit}

-- What follows where there is a value, and none where there is none.
infixl 10 ◌>>=◌
abbrev pub ◌>>=◌ : {A B : Type 0} → Option A → (A → Option B) → Option B
o >>= f = option_and_then f o

-- Words separated by one space; w is what was read of a word before.
unfoldable pub words_from : Bytes → Bytes → List Bytes
words_from w [] = w ∷ []
words_from w (c ∷ s) = cond (eqb c 32) (w ∷ words_from [] s) (words_from (w ++ (c ∷ [])) s)

-- Words separated by one space.
unfoldable pub words : Bytes → List Bytes
words s = slice_split (λ b. eqb b 32) s

-- Digits alone, as a number; m is the value of those before.
unfoldable pub value_from : ℕ → Bytes → Option ℕ
value_from m [] = Some m
value_from m (c ∷ s) = cond (is_digit c) (value_from (10 * m + (c - 48)) s) None

-- Numbers decimal from 0 to 4,294,967,295.
unfoldable pub bounded : Option ℕ → Option ℕ
bounded None = None
bounded (Some m) = cond (ltb 4294967295 m) None (Some m)

unfoldable pub number_of : Bytes → Option ℕ
number_of [] = None
number_of (c ∷ s) = bounded (value_from 0 (c ∷ s))

-- A digit of lower-case hex.
unfoldable pub nibble_of : ℕ → Option ℕ
nibble_of c = cond (is_digit c) (Some (c - 48)) (cond (leb 97 c && leb c 102) (Some (c - 87)) None)

-- Two digits a byte, the higher one first; x is what was read before.
unfoldable pub bytes_from : Bytes → Bytes → Option Bytes
bytes_from x [] = Some x
bytes_from x (h ∷ []) = None
bytes_from x (h ∷ l ∷ s) = nibble_of h >>= λ a. nibble_of l >>= λ b. bytes_from (x ++ ((16 * a + b) ∷ [])) s

-- HEX is the content in lower-case hex, `-` for none, at most 1,024 bytes.
unfoldable pub content_of : Bytes → Option Bytes
content_of [] = None
content_of (c ∷ []) = cond (eqb c 45) (Some []) None
content_of (c ∷ d ∷ s) = cond (ltb 2048 (length (c ∷ d ∷ s))) None (bytes_from [] (c ∷ d ∷ s))
