-- Each step of a job's list, at the image where it is reached: it changes something.
use Rattle.std.specs.Prelude.{◌≡◌, ◌≢◌, false, List, [], ◌∷◌, ℕ, ◌+◌, ◌/◌, ◌%◌, ◌≤◌, ◌<◌, length, get_or, set}
use Rattle.std.proofs.Common.{sym, ◌∙◌, true≢false, arith, length-set, get_or-set_same, get_or-set_other}
use Rattle.std.proofs.Math.Decide.{dec_le, dec_lt}
use borrow.Author.Tests.{eqb-false}
use Rattle.std.proofs.Math.ListN.{get_or-eq_default}
use Rattle.std.specs.Int.Bits.{bit_and, and_le_l}
use Rattle.rules.specs.Flash.{Bytes, word, lay, Step, program, erase, apply, idle, steps_of}
use Rattle.laws.specs.Tests.{either}
use Rattle.laws.specs.Lists.{Every}
use Rattle.laws.specs.Words.{word_bytes, lay_bytes, word_programmed, idle_outside}
use Rattle.laws.specs.Runs.{steps_idle, steps_applied}

-- P holds of each step of a list, at the image where it is reached.
abbrev pub EachStep : (Step → Bytes → Type 0) → List Step → Bytes → Type 0
EachStep P [] s = Unit {0}
EachStep P (x ∷ xs) s = P x s × EachStep P xs (apply x s)

-- What Q says of each step of a job, and I of the image, holds of each step of its list: P follows from both where the step is not idle.
pub each_step : (P : Step → Bytes → Type 0) (Q : Step → Type 0) (I : Bytes → Type 0)
    → ((x : Step) (s : Bytes) → Q x → I s → idle x s ≡ false → P x s)
    → ((x : Step) (s : Bytes) → Q x → I s → idle x s ≡ false → I (apply x s))
    → (xs : List Step) (s : Bytes) → Every Q xs → I s → EachStep P (steps_of xs s) s
each_step P Q I f g [] s q i = unfold steps_of in tt
each_step P Q I f g (x ∷ xs) s q i =
    either (idle x s)
    (λ e. rw (steps_idle x s xs e) (each_step P Q I f g xs s q.1 i))
    (λ e. rw (steps_applied x s xs e) (f x s q.0 i e, each_step P Q I f g xs (apply x s) q.1 (g x s q.0 i e)))

-- What follows from P holds where P does.
pub each_map : (P Q : Step → Bytes → Type 0) → ((x : Step) (s : Bytes) → P x s → Q x s) → (xs : List Step) (s : Bytes) → EachStep P xs s → EachStep Q xs s
each_map P Q f [] s h = tt
each_map P Q f (x ∷ xs) s h = (f x s h.0, each_map P Q f xs (apply x s) h.1)

-- ---- no step is idle
-- The step is no step that would change nothing.
abbrev pub Busy : Step → Bytes → Type 0
Busy x s = idle x s ≡ false

any : (xs : List Step) → Every (λ (x : Step). Unit {0}) xs
any [] = tt
any (x ∷ xs) = (tt, any xs)

-- No step of a job's list is idle where it is reached.
pub each_busy : (xs : List Step) (s : Bytes) → EachStep Busy (steps_of xs s) s
each_busy xs s =
    each_step Busy (λ (x : Step). Unit {0}) (λ (s : Bytes). Unit {0}) (λ x s q i e. e) (λ x s q i e. tt) xs s (any xs) tt

-- ---- no program leaves its word as it was
-- At the image's last byte a laid word is cut to its low byte.
word_cut : (s : Bytes) (a w : ℕ) → a < length s → length s ≤ a + 1 → word (lay s a w) a ≡ w % 256
word_cut s a w h k =
    let n : a ≢ a + 1 = omega arith in
    let low : get_or (set (set s a (w % 256)) (a + 1) (w / 256)) a 0 ≡ w % 256 =
    get_or-set_other (set s a (w % 256)) (a + 1) a (w / 256) 0 n ∙ get_or-set_same s a (w % 256) 0 h in
    let high : get_or (set (set s a (w % 256)) (a + 1) (w / 256)) (a + 1) 0 ≡ 0 =
    get_or-eq_default (set (set s a (w % 256)) (a + 1) (w / 256)) 0 {n = a + 1} (simp length-set k) in
    rw (word_bytes, lay_bytes) (omega arith)

module _ (a v : ℕ) (s : Bytes) (h : idle (program a v) s ≡ false) where
  -- Its target is another word than it finds.
  pub busy_differs : bit_and (word s a) v ≢ word s a
  busy_differs = unfold idle in eqb-false (bit_and (word s a) v) (word s a) h

  -- It starts inside the image, for outside it would be idle.
  pub busy_inside : a < length s
  busy_inside = go (dec_lt a (length s))
    where
      go : Dec (a < length s) → a < length s
      go (yes l) = l
      go (no n) = absurd (true≢false (sym (idle_outside a v s (omega arith)) ∙ h))

  -- It leaves another word than it found.
  pub program_changes : word (apply (program a v) s) a ≢ word s a
  program_changes = go (dec_le (a + 2) (length s))
    where
      go : Dec (a + 2 ≤ length s) → word (apply (program a v) s) a ≢ word s a
      go (yes l) e = busy_differs (sym (word_programmed a v s l) ∙ e)
      go (no n) e =
          let c : word (apply (program a v) s) a ≡ bit_and (word s a) v % 256 = unfold apply in word_cut s a (bit_and (word s a) v) busy_inside (omega arith) in
          omega (arith, busy_differs, and_le_l (word s a) v)

-- The step, if it is a program, leaves another word than it found.
abbrev pub ChangesWord : Step → Bytes → Type 0
ChangesWord (program a v) s = word (apply (program a v) s) a ≢ word s a
ChangesWord (erase a k) s = Unit {0}

busy_changes : (x : Step) (s : Bytes) → Busy x s → ChangesWord x s
busy_changes (program a v) s h = program_changes a v s h
busy_changes (erase a k) s h = tt

-- No program of a job's list leaves its word as it was.
pub each_changes : (xs : List Step) (s : Bytes) → EachStep ChangesWord (steps_of xs s) s
each_changes xs s = each_map Busy ChangesWord busy_changes (steps_of xs s) s (each_busy xs s)
