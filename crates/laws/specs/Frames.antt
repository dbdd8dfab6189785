-- A job that programs only between two offsets leaves the other bytes as they are; what it writes on erased bytes reads back.
use Rattle.std.specs.Prelude.{◌≡◌, ◌≢◌, ℕ, ◌+◌, ◌*◌, ◌%◌, ◌^◌, ◌≤◌, ◌<◌, zero, suc, length, get_or, eqb, true}
use Rattle.std.proofs.Math.Path.{refl}
use Rattle.std.proofs.Common.{ap, ◌∙◌, sym, arith, eqb-true}
use mathlib.Core.List.{List, [], ◌∷◌}
use Rattle.std.specs.Int.Bits.{bit_and}
use Rattle.std.proofs.lemmas.Nat.{and_comm, and_mask}
use Rattle.rules.specs.Flash.{Bytes, word, Step, program, erase, made, finish, programs, erased}
use Rattle.laws.specs.Words.{word_bytes, word_same, word_made, word_kept, byte_made, length_made}
use Rattle.laws.specs.Lists.{Every, every_map, every_all}

-- The step programs a word between the offsets a and b.
abbrev pub StepInside : ℕ → ℕ → Step → Type 0
StepInside a b (program x v) = (a ≤ x) × (x + 2 ≤ b)
StepInside a b (erase x k) = ⊥

-- What lies between two offsets lies between wider ones.
pub inside_wider : (a b c d : ℕ) → c ≤ a → b ≤ d → (xs : List Step) → Every (StepInside a b) xs → Every (StepInside c d) xs
inside_wider a b c d h k xs e = every_map (StepInside a b) (StepInside c d) go xs e
  where
    go : (x : Step) → StepInside a b x → StepInside c d x
    go (program x v) i = (omega arith, omega arith)
    go (erase x k) i = i

-- Programs one after the other lie between the first offset and the end of the last word.
pub programs_inside : (a b c : ℕ) (ws : List ℕ) → a ≤ c → c + 2 * length ws ≤ b → Every (StepInside a b) (programs c ws)
unfolding programs
programs_inside a b c [] h k = tt
programs_inside a b c (w ∷ ws) h k = ((h, omega arith), programs_inside a b (c + 2) ws (omega arith) (omega arith))

module _ (a b : ℕ) where
  -- Such a job keeps the length.
  pub inside_length : (xs : List Step) (s : Bytes) → Every (StepInside a b) xs → length (finish xs s) ≡ length s
  unfolding finish
  inside_length [] s h = refl
  inside_length (program x v ∷ xs) s h = inside_length xs (made (program x v) s) h.1 ∙ length_made (program x v) s tt
  inside_length (erase x k ∷ xs) s h = absurd h.0

  -- A byte that is not between a and b stays.
  pub inside_byte : (i : ℕ) → ((x : ℕ) → a ≤ x → x < b → i ≢ x) → (xs : List Step) (s : Bytes) → Every (StepInside a b) xs
      → get_or (finish xs s) i 0 ≡ get_or s i 0
  unfolding finish
  inside_byte i n [] s h = refl
  inside_byte i n (program x v ∷ xs) s h =
      inside_byte i n xs (made (program x v) s) h.1
      ∙ byte_made x v s i (n x h.0.0 (omega (arith, h.0.1))) (n (x + 1) (omega (arith, h.0.0)) (omega (arith, h.0.1)))
  inside_byte i n (erase x k ∷ xs) s h = absurd h.0

  -- A word below a stays.
  pub inside_below : (i : ℕ) → i + 2 ≤ a → (xs : List Step) (s : Bytes) → Every (StepInside a b) xs → word (finish xs s) i ≡ word s i
  inside_below i l xs s h =
      word_same (finish xs s) s i i (inside_byte i (λ x p q. omega arith) xs s h) (inside_byte (i + 1) (λ x p q. omega arith) xs s h)

-- ---- erased bytes
-- The bytes from a up to b are FF.
abbrev pub Blank : Bytes → ℕ → ℕ → Type 0
Blank s a b = (i : ℕ) → a ≤ i → i < b → get_or s i 0 ≡ 255

-- An erased word is FFFF hex.
pub blank_word : (s : Bytes) (a b : ℕ) → Blank s a b → (i : ℕ) → a ≤ i → i + 2 ≤ b → word s i ≡ 0xFFFF
blank_word s a b h i l m = rw (word_bytes s i, h i l (omega arith), h (i + 1) (omega arith) (omega arith))

-- A unit that is erased has no other byte.
pub erased_byte : (u : Bytes) → erased u ≡ true → (i : ℕ) → i < length u → get_or u i 0 ≡ 255
unfolding erased
erased_byte u e = go u (every_all (eqb 255) u e)
  where
    go : (u : Bytes) → Every (λ (x : ℕ). eqb 255 x ≡ true) u → (i : ℕ) → i < length u → get_or u i 0 ≡ 255
    go [] h i l = absurd (omega arith)
    go (x ∷ u) h zero l = sym (eqb-true 255 x h.0)
    go (x ∷ u) h (suc i) l = go u h.1 i (omega arith)

-- Any word can be programmed over an erased one.
pub and_erased : (v : ℕ) → v < 65536 → bit_and 0xFFFF v ≡ v
and_erased v h = and_comm 0xFFFF v ∙ and_mask v 16 ∙ small
  where
    small : v % 2 ^ 16 ≡ v
    small = omega arith

-- A word programmed over an erased one reads back.
pub blank_made : (a v : ℕ) (s : Bytes) → word s a ≡ 0xFFFF → a + 2 ≤ length s → v < 65536 → word (made (program a v) s) a ≡ v
blank_made a v s e l h = word_made a v s l ∙ ap (λ (w : ℕ). bit_and w v) e ∙ and_erased v h

-- The first two of some words that are programmed where all is erased read back.
pub two_written : (a f o : ℕ) (ws : List ℕ) (s : Bytes) → Blank s a (a + 4) → a + 4 ≤ length s → f < 65536 → o < 65536
    → (word (finish (programs a (f ∷ (o ∷ ws))) s) a ≡ f) × (word (finish (programs a (f ∷ (o ∷ ws))) s) (a + 2) ≡ o)
unfolding finish programs
two_written a f o ws s b l hf ho = (
  later a (omega arith) ∙ word_kept (a + 2) o s₁ a (omega arith) (omega arith) (omega arith) ∙ first,
  later (a + 2) (omega arith) ∙ blank_made (a + 2) o s₁ second (omega (arith, length_made (program a f) s tt)) ho,
)
  where
    s₁ : Bytes
    s₁ = made (program a f) s

    s₂ : Bytes
    s₂ = made (program (a + 2) o) s₁

    first : word s₁ a ≡ f
    first = blank_made a f s (blank_word s a (a + 4) b a (omega arith) (omega arith)) (omega arith) hf

    second : word s₁ (a + 2) ≡ 0xFFFF
    second = word_kept a f s (a + 2) (omega arith) (omega arith) (omega arith) ∙ blank_word s a (a + 4) b (a + 2) (omega arith) (omega arith)

    later : (i : ℕ) → i + 2 ≤ a + 2 + 2 → word (finish (programs (a + 2 + 2) ws) s₂) i ≡ word s₂ i
    later i h =
        inside_below (a + 2 + 2) (a + 2 + 2 + 2 * length ws) i h (programs (a + 2 + 2) ws) s₂ (programs_inside _ _ (a + 2 + 2) ws (omega arith) (omega arith))
