-- Laws of contents and steps, in the code's terms: an index for a walk, one turn of a loop, each case of a test.
use Prim.Native.Nat.{ℕ, zero, suc, ◌+◌, ◌-◌, ◌*◌, ◌≤◌, ◌<◌}
use native.Mathlib.Omega.{arith}
use Rattle.std.proofs.Common.{not-suc-le-zero, ap, ◌∙◌, eq-eqb, ne_eqb, eqb-true}
use Rattle.std.proofs.Math.Numerals.{add-one}
use Rattle.std.specs.Prelude.{◌≡◌, Bool, ◌&&◌, eqb, get_or, None, Some}
use Rattle.std.proofs.Math.Path.{refl, sym}
use Rattle.std.proofs.Math.Bool.{true, false}
use mathlib.Core.List.{List, [], ◌∷◌, ◌++◌}
use Rattle.std.proofs.lemmas.Bool.{eqb-false}
use Rattle.std.specs.Int.Bits.{bit_and}
use Rattle.std.specs.List.{fold}
use Rattle.std.proofs.lemmas.Nat.{and_le_l, and_le_r}
use Rattle.std.proofs.Math.ListN.{length, drop, length-drop, drop_of_length-le}
use Rattle.std.proofs.Math.Seq.{drop-cons, drop-drop}
use Rattle.rules.specs.Lists.{all}
use Rattle.rules.specs.Flash.{Bytes, word, erased, Step, program, erase, apply, idle, State, state, step, run, programs, words}
use Rattle.laws.specs.Runs as runs
use Rattle.laws.specs.Runs.{step_applied, run_append}

-- ---- erased bytes

-- two bytes are FF where their AND is
and_full : (a x : ℕ) → a < 256 → x < 256 → eqb (bit_and a x) 255 ≡ (eqb a 255 && eqb 255 x)
and_full a x h k = go (eqb a 255) (eqb 255 x) refl refl
  where
    go : (b c : Bool) → eqb a 255 ≡ b → eqb 255 x ≡ c → eqb (bit_and a x) 255 ≡ (b && c)
    go true true p q = rw (eqb-true a 255 p, ← eqb-true 255 x q)
    go true false p q = ne_eqb (bit_and a x) 255 (λ e. eqb-false 255 x q (omega (arith, and_le_r a x)))
    go false c p q = ne_eqb (bit_and a x) 255 (λ e. eqb-false a 255 p (omega (arith, and_le_l a x)))

-- a first byte that is not FF
pub erased_first : (l : Bytes) → 0 < length l → (get_or l 0 0 ≡ 255 → ⊥) → false ≡ erased l
unfolding erased all
erased_first [] h n = absurd (omega arith)
erased_first (b ∷ l) h n = sym (ap (λ (c : Bool). elim c as (λ (t : Bool). Bool) [ true ↦ erased l | false ↦ false ]) (ne_eqb 255 b (λ e. n (sym e))))

-- so with any number of them
erased_from : (l : Bytes) (a : ℕ) → a < 256 → ((i : ℕ) → get_or l i 0 < 256) → eqb (fold bit_and a l) 255 ≡ (eqb a 255 && erased l)
unfolding erased all
erased_from [] a h k = go (eqb a 255)
  where
    go : (b : Bool) → b ≡ (b && true)
    go true = refl
    go false = refl
erased_from (x ∷ l) a h k =
    erased_from l (bit_and a x) (omega (arith, and_le_l a x)) (λ i. k (suc i)) ∙ rw (and_full a x h (k 0)) (go (eqb a 255) (eqb 255 x))
  where
    go : (b c : Bool) → ((b && c) && erased l) ≡ (b && (elim c as (λ (t : Bool). Bool) [ true ↦ erased l | false ↦ false ]))
    go true true = refl
    go true false = refl
    go false c = refl

pub erased_fold : (l : Bytes) → ((i : ℕ) → get_or l i 0 < 256) → eqb (fold bit_and 255 l) 255 ≡ erased l
erased_fold l h = erased_from l 255 (omega arith) h

-- ---- one step, by cases

module _ (a v : ℕ) (s : Bytes) where
  pub step_idle : (k : ℕ) → bit_and (word s a) v ≡ word s a → state s (Some k) ≡ step (program a v) (state s (Some k))
  unfolding idle
  step_idle k h = sym (runs.step_idle (program a v) s k (eq-eqb (bit_and (word s a) v) (word s a) h))

  pub step_cut : (k : ℕ) → (bit_and (word s a) v ≡ word s a → ⊥) → (1 ≤ k → ⊥) → state s None ≡ step (program a v) (state s (Some k))
  unfolding idle
  step_cut k h n = let e : k ≡ 0 = omega arith in rw e (sym (runs.step_cut (program a v) s (ne_eqb (bit_and (word s a) v) (word s a) h)))

  pub step_made : (k : ℕ) → (bit_and (word s a) v ≡ word s a → ⊥) → 1 ≤ k
      → state (apply (program a v) s) (Some (k - 1)) ≡ step (program a v) (state s (Some k))
  unfolding idle
  step_made zero h n = absurd (omega arith)
  step_made (suc k) h n =
      let e : suc k - 1 ≡ k = omega arith in
      rw e (sym (step_applied (program a v) s k (ne_eqb (bit_and (word s a) v) (word s a) h)))

pub erase_made : (a k : ℕ) (s : Bytes) (j : ℕ) → (j ≡ 0 → ⊥) → state (apply (erase a k) s) (Some (j - 1)) ≡ step (erase a k) (state s (Some j))
unfolding step idle
erase_made a k s zero n = absurd (n refl)
erase_made a k s (suc j) n =
    let e : suc j - 1 ≡ j = omega arith in
    rw e

-- ---- runs, in the contracts' own direction

pub run_by : (s : Step) (ss : List Step) (x : State) {y z : State} → y ≡ step s x → z ≡ run ss y → z ≡ run (s ∷ ss) x
unfolding run
run_by s ss x e f = f ∙ ap (run ss) e

pub run_on : (xs ys : List Step) (x : State) {y z : State} → y ≡ run xs x → z ≡ run ys y → z ≡ run (xs ++ ys) x
run_on xs ys x e f = f ∙ ap (run ys) e ∙ sym (run_append xs ys x)

pub run_last : (s : Step) (x : State) {z : State} → z ≡ step s x → z ≡ run (s ∷ []) x
unfolding run
run_last s x e = e

-- ---- the words of a content

-- the first of them
unfoldable pub word_from : Bytes → ℕ
word_from [] = 0
word_from (a ∷ []) = a + 256 * 255
word_from (a ∷ b ∷ r) = a + 256 * b

words_cons : (l : Bytes) → 0 < length l → words l ≡ word_from l ∷ words (drop 2 l)
unfolding words word_from
words_cons [] h = absurd (not-suc-le-zero h)
words_cons (a ∷ []) h = refl
words_cons (a ∷ b ∷ l) h = refl

module _ (l : Bytes) (i : ℕ) where
  pub word_pair : i + 1 < length l → word_from (drop i l) ≡ get_or l i 0 + 256 * get_or l (i + 1) 0
  unfolding word_from
  word_pair h =
      let h₀ : i < length l = omega arith in
      let h₁ : suc i < length l = omega arith in
      rw (add-one, drop-cons l i 0 h₀, drop-cons l (suc i) 0 h₁)

  pub word_odd : i < length l → length l ≤ i + 1 → word_from (drop i l) ≡ get_or l i 0 + 256 * 255
  unfolding word_from
  word_odd h k =
      let e : drop (suc i) l ≡ [] = drop_of_length-le l {i = suc i} (omega arith) in
      rw (drop-cons l i 0 h, e)

  -- one turn: what is left to run from the state after is what was left to run from the state before
  pub words_turn : (a v : ℕ) (x y : State) → i < length l → v ≡ word_from (drop i l) → y ≡ step (program a v) x
      → run (programs (a + 2) (words (drop (i + 2) l))) y ≡ run (programs a (words (drop i l))) x
  unfolding run programs
  words_turn a v x y h e s =
      let w : words (drop i l) ≡ word_from (drop i l) ∷ words (drop (i + 2) l) = words_cons (drop i l) (simp length-drop (omega arith)) ∙ rw drop-drop in
      rw (s, w, e)

  pub words_end : (a : ℕ) (x : State) → length l ≤ i → run (programs a (words (drop i l))) x ≡ x
  unfolding run programs words
  words_end a x h = rw (drop_of_length-le l h)
