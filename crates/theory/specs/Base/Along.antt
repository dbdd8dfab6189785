-- What holds along a job's steps, how a run under an allowance goes, and the one law of a programmed word.
-- P holds of s and after each step of a job
use Rattle.std.specs.Prelude.{Bool, false, true, List, [], ◌++◌, ◌∷◌, ◌≡◌, refl, ◌%◌, ◌/◌, ◌<◌, suc, zero, ℕ, eqb, length, take, None, Some}
use Rattle.std.proofs.Common.{◌∙◌, ap, subst, sym, le_of_suc-le-suc, not-suc-le-zero, arith}
use Rattle.std.proofs.Math.Decide.{dec_lt}
use Rattle.std.specs.Int.Bits.{bit_and}
use Rattle.rules.specs.Flash.{Bytes, State, Step, apply, finish, idle, lay, made, program, run, state, step, steps_of, word}
use Rattle.laws.specs.Runs.{run_done, stays_cut}
use Rattle.laws.specs.Words.{two_bytes}
use Rattle.theory.specs.Base.Facts.{eq_of}

abbrev pub Along : (Bytes → Type 0) → Bytes → List Step → Type 0
Along P s [] = P s
Along P s (x ∷ xs) = P s × Along P (made x s) xs

pub along_append : (P : Bytes → Type 0) (xs ys : List Step) (s : Bytes) → Along P s xs → Along P (finish xs s) ys → Along P s (xs ++ ys)
unfolding finish
along_append P [] ys s a b = b
along_append P (x ∷ xs) ys s a b = (a.0, along_append P xs ys (made x s) a.1 b)

pub along_first : (P : Bytes → Type 0) (xs : List Step) (s : Bytes) → Along P s xs → P s
along_first P [] s a = a
along_first P (x ∷ xs) s a = a.0

pub along_last : (P : Bytes → Type 0) (xs : List Step) (s : Bytes) → Along P s xs → P (finish xs s)
unfolding finish
along_last P [] s a = a
along_last P (x ∷ xs) s a = along_last P xs (made x s) a.1

pub along_map : (P Q : Bytes → Type 0) → ((s : Bytes) → P s → Q s) → (xs : List Step) (s : Bytes) → Along P s xs → Along Q s xs
along_map P Q f [] s a = f s a
along_map P Q f (x ∷ xs) s a = (f s a.0, along_map P Q f xs (made x s) a.1)

-- ---- runs

-- the image that a run has come to
abbrev pub image_of : State → Bytes
image_of (state s r) = s

-- P holds of whatever a stopped or finished run leaves
pub along_run : (P : Bytes → Type 0) (xs : List Step) (k : ℕ) (s : Bytes) → Along P s xs → P (image_of (run xs (state s (Some k))))
unfolding run made step
along_run P [] k s a = a
along_run P (x ∷ xs) k s a = go (idle x s) k a.0 (λ c e. along_run P xs c s e) (λ c e. along_run P xs c (apply x s) e) a.1
  where
    go : (i : Bool) (d : ℕ) → P s → ((c : ℕ) → Along P s xs → P (image_of (run xs (state s (Some c)))))
        → ((c : ℕ) → Along P (apply x s) xs → P (image_of (run xs (state (apply x s) (Some c)))))
        → Along P (elim i as (λ j. Bytes) [ true ↦ s | false ↦ apply x s ]) xs
        → P (image_of (run xs (elim i as (λ j. State) [
          | true ↦ state s (Some d)
          | false ↦ elim d as (λ j. State) [ zero ↦ state s None | suc j ↦ state (apply x s) (Some j) ]
        ])))
    go true d p f h e = f d e
    go false zero p f h e = subst (λ (r : State). P (image_of r)) (sym (stays_cut xs s)) p
    go false (suc c) p f h e = h c e

-- a job's list of steps comes to the same image
pub steps_finish : (xs : List Step) (s : Bytes) → finish (steps_of xs s) s ≡ finish xs s
unfolding steps_of finish made
steps_finish [] s = refl
steps_finish (x ∷ xs) s = go (idle x s) refl (steps_finish xs s) (steps_finish xs (apply x s))
  where
    go : (i : Bool) → idle x s ≡ i → finish (steps_of xs s) s ≡ finish xs s → finish (steps_of xs (apply x s)) (apply x s) ≡ finish xs (apply x s)
        → finish (elim i as (λ j. List Step) [ true ↦ steps_of xs s | false ↦ x ∷ steps_of xs (apply x s) ]) s ≡ finish xs (elim i as (λ j. Bytes) [ true ↦ s | false ↦ apply x s ])
    go true e h k = h
    go false e h k = ap (λ (i : Bool). finish (steps_of xs (apply x s)) (elim i as (λ j. Bytes) [ true ↦ s | false ↦ apply x s ])) e ∙ k

-- one that is shorter than the list: its first steps are made
pub run_stopped : (xs : List Step) (k : ℕ) (s : Bytes) → k < length (steps_of xs s) → run xs (state s (Some k)) ≡ state (finish (take k (steps_of xs s)) s) None
unfolding steps_of finish made run step
run_stopped [] k s h = absurd (not-suc-le-zero h)
run_stopped (x ∷ xs) k s h = go (idle x s) refl k h (λ c. run_stopped xs c s) (λ c. run_stopped xs c (apply x s))
  where
    go : (i : Bool) → idle x s ≡ i → (d : ℕ) → d < length {A = Step} (elim i as (λ j. List Step) [ true ↦ steps_of xs s | false ↦ x ∷ steps_of xs (apply x s) ])
        → ((c : ℕ) → c < length (steps_of xs s) → run xs (state s (Some c)) ≡ state (finish (take c (steps_of xs s)) s) None)
        → ((c : ℕ) → c < length (steps_of xs (apply x s)) → run xs (state (apply x s) (Some c)) ≡ state (finish (take c (steps_of xs (apply x s))) (apply x s)) None)
        → run xs (elim i as (λ j. State) [
          | true ↦ state s (Some d)
          | false ↦ elim d as (λ j. State) [ zero ↦ state s None | suc j ↦ state (apply x s) (Some j) ]
        ])
        ≡ state (finish (take d (elim i as (λ j. List Step) [ true ↦ steps_of xs s | false ↦ x ∷ steps_of xs (apply x s) ])) s) None
    go true q d l f e = f d l
    go false q zero l f e = stays_cut xs s
    go false q (suc c) l f e =
        e c (le_of_suc-le-suc l)
        ∙ ap (λ (i : Bool). state (finish (take c (steps_of xs (apply x s))) (elim i as (λ j. Bytes) [ true ↦ s | false ↦ apply x s ])) None) (sym q)

-- a run that was not cut has made all
pub run_whole : (xs : List Step) (k j : ℕ) (s t : Bytes) → run xs (state s (Some k)) ≡ state t (Some j) → t ≡ finish xs s
run_whole xs k j s t h = go (dec_lt k (length (steps_of xs s)))
  where
    go : Dec (k < length (steps_of xs s)) → t ≡ finish xs s
    go (yes l) = (let z : ◌≡◌ {A = State} (state t (Some j)) (state (finish (take k (steps_of xs s)) s) None) = sym h ∙ run_stopped xs k s l in cc)
    go (no l) = ap image_of (sym h ∙ run_done xs k s (omega arith))

-- ---- a word's two bytes before r
abbrev pub le : ℕ → Bytes → Bytes
le w r = w % 256 ∷ (w / 256 ∷ r)

pub word_at_lem : (xs : Bytes) (w : ℕ) (r : Bytes) → word (xs ++ le w r) (length xs) ≡ w
unfolding word
word_at_lem [] w r = two_bytes w
word_at_lem (x ∷ xs) w r = word_at_lem xs w r

pub lay_at : (xs : Bytes) (w v : ℕ) (r : Bytes) → lay (xs ++ le w r) (length xs) v ≡ xs ++ le v r
unfolding lay
lay_at [] w v r = refl
lay_at (x ∷ xs) w v r = ap {B = List ℕ} (λ l. x ∷ l) (lay_at xs w v r)

-- THE law of a programmed word, idle or not
pub programmed : (xs : Bytes) (w v : ℕ) (r : Bytes) → made (program (length xs) v) (xs ++ le w r) ≡ xs ++ le (bit_and w v) r
unfolding made idle apply
programmed xs w v r = go (word (xs ++ le w r) (length xs)) (word_at_lem xs w r)
  where
    s : Bytes
    s = xs ++ le w r

    two : (u : ℕ) (i : Bool) → u ≡ w → (i ≡ true → bit_and w v ≡ w)
        → (elim i as (λ j. Bytes) [ true ↦ s | false ↦ lay s (length xs) (bit_and u v) ]) ≡ xs ++ le (bit_and w v) r
    two u true e h = ap (λ (z : ℕ). xs ++ le z r) (sym (h refl))
    two u false e h = lay_at xs w (bit_and u v) r ∙ ap (λ (z : ℕ). xs ++ le (bit_and z v) r) e

    go : (u : ℕ) → u ≡ w
        → (elim (eqb (bit_and u v) u) as (λ j. Bytes) [ true ↦ s | false ↦ lay s (length xs) (bit_and u v) ]) ≡ xs ++ le (bit_and w v) r
    go u e = two u (eqb (bit_and u v) u) e (λ t. subst (λ (z : ℕ). bit_and z v ≡ z) e (eq_of (bit_and u v) u t))
