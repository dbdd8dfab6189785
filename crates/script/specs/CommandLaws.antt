-- The words of a line, one after the other.
use Rattle.std.specs.Prelude.{◌≡◌, refl, Bool, true, false, cond, not, Some, None, List, [], ◌∷◌, ◌++◌, ℕ, suc, ◌+◌, ◌<◌, ◌≤◌, eqb, ltb, length, take, drop}
use Rattle.std.specs.List.{position, position_or_len, slice_split, onto_first}
use Rattle.std.proofs.Common.{arith, ap, sym, ◌∙◌, append_assoc, append-nil}
use Rattle.std.proofs.lemmas.List.Splits.{slice_split_first, length-slice_split}
use borrow.Author.Tests.{ltb-true, ltb-false}
use Rattle.rules.specs.Flash.{Bytes}
use Rattle.script.specs.Words.{words_from, words}
use Rattle.script.specs.Commands.{command_of}

abbrev pub space : ℕ → Bool
space b = eqb b 32

-- ---- the words, read byte by byte
-- Words, with what was read of the first one before.
abbrev behind : Bytes → List Bytes → List Bytes
behind w [] = w ∷ []
behind w (u ∷ us) = (w ++ u) ∷ us

behind_none : (us : List Bytes) → 0 < length us → behind [] us ≡ us
behind_none [] h = absurd (omega arith)
behind_none (u ∷ us) h = refl

behind_one : (w : Bytes) (c : ℕ) (us : List Bytes) → behind (w ++ (c ∷ [])) us ≡ behind w (onto_first c us)
behind_one w c [] = refl
behind_one w c (u ∷ us) = ap (λ (x : Bytes). x ∷ us) (append_assoc w (c ∷ []) u)

split_behind : (s : Bytes) → behind [] (slice_split space s) ≡ slice_split space s
split_behind s = behind_none (slice_split space s) (omega (arith, length-slice_split space s))

read_behind : (w s : Bytes) → words_from w s ≡ behind w (slice_split space s)
unfolding words_from
read_behind w [] = ap (λ (x : Bytes). x ∷ []) (sym (append-nil w))
read_behind w (c ∷ s) = go (eqb c 32) (λ (x : Bytes). read_behind x s)
  where
    go : (b : Bool) → ((x : Bytes) → words_from x s ≡ behind x (slice_split space s))
        → cond b (w ∷ words_from [] s) (words_from (w ++ (c ∷ [])) s) ≡ behind w (cond b ([] ∷ slice_split space s) (onto_first c (slice_split space s)))
    go true f = rw (append-nil w) (ap (λ (x : List Bytes). w ∷ x) (f [] ∙ split_behind s))
    go false f = f (w ++ (c ∷ [])) ∙ behind_one w c (slice_split space s)

pub words_read : (s : Bytes) → words s ≡ words_from [] s
unfolding words
words_read s = sym (read_behind [] s ∙ split_behind s)

-- ---- the first word
alone_to_end : (s : Bytes) → length s ≤ position_or_len space s → slice_split space s ≡ s ∷ []
alone_to_end [] h = refl
alone_to_end (c ∷ s) h = go (eqb c 32) h (alone_to_end s)
  where
    go : (b : Bool) → suc (length s) ≤ cond (not b) (1 + position_or_len space s) 0
        → (length s ≤ position_or_len space s → slice_split space s ≡ s ∷ [])
        → cond b ([] ∷ slice_split space s) (onto_first c (slice_split space s)) ≡ (c ∷ s) ∷ []
    go true h f = absurd (omega arith)
    go false h f = ap (onto_first c) (f (omega arith))

module _ (s : Bytes) where
  abbrev first : ℕ
  first = position_or_len space s

  pub one_word : position space s ≡ None → words s ≡ s ∷ []
  unfolding words
  one_word h = go (ltb first (length s)) refl h
    where
      go : (b : Bool) → ltb first (length s) ≡ b → cond b (Some first) None ≡ None → slice_split space s ≡ s ∷ []
      go true e k = absurd (cc)
      go false e k = alone_to_end s (ltb-false first (length s) e)

  pub first_word : (i : ℕ) → position space s ≡ Some i → words s ≡ take i s ∷ words (drop (i + 1) s)
  unfolding words
  first_word i h = go (ltb first (length s)) refl h
    where
      go : (b : Bool) → ltb first (length s) ≡ b → cond b (Some first) None ≡ Some i → slice_split space s ≡ take i s ∷ slice_split space (drop (i + 1) s)
      go true e k =
          let n : first ≡ i = cc in
          rw n at (slice_split_first space s 0 (ltb-true first (length s) e))
      go false e k = absurd (cc)

-- More words than any command has.
pub too_many : (v x y z s : Bytes) → command_of (v ∷ x ∷ y ∷ z ∷ words s) ≡ None
unfolding words command_of
too_many v x y z s = go (slice_split space s) (omega (arith, length-slice_split space s))
  where
    go : (us : List Bytes) → 0 < length us → command_of (v ∷ x ∷ y ∷ z ∷ us) ≡ None
    go [] h = absurd (omega arith)
    go (u ∷ us) h = refl

pub ruleset words_of = (one_word, first_word, too_many)
