-- What a run leaves: whatever each of its steps leaves, cut or not.
use Rattle.std.specs.Prelude.{◌≡◌, Bool, length, take, drop, set, replicate, None, Some}
use Rattle.std.proofs.Math.Path.{refl, ap}
use Rattle.std.proofs.Common.{◌∙◌, arith, drop-set-lt, length-take-le}
use Rattle.std.proofs.Math.Bool.{true, false}
use mathlib.Core.List.{List, [], ◌∷◌, ◌++◌}
use Prim.Native.Nat.{ℕ, zero, suc, ◌+◌, ◌-◌, ◌/◌, ◌%◌, ◌≤◌}
use Rattle.std.proofs.lemmas.List.{length-replicate, take-set-le, drop-set-add}
use Rattle.std.proofs.Math.Seq.{drop-append-add}
use Rattle.std.specs.Int.Bits.{bit_and}
use Rattle.rules.specs.Flash.{Bytes, word, lay, Step, program, erase, apply, idle, State, state, step, run, Run}
use Rattle.laws.specs.Lists.{Every}
use Rattle.laws.specs.Runs.{image_of}
use Rattle.laws.specs.Words.{lay_bytes, word_aside}

module _ {A : Type 0} (f : Bytes → A) where
  -- the step changes nothing of what f reads
  abbrev pub LeavesRead : Step → Type 0
  LeavesRead x = (s : Bytes) → f (apply x s) ≡ f s

  step_image : (x : Step) (s : Bytes) (r : Run) → f (apply x s) ≡ f s → f (image_of (step x (state s r))) ≡ f s
  unfolding step image_of
  step_image x s None h = refl
  step_image x s (Some k) h = go (idle x s) k
    where
      go : (b : Bool) (k : ℕ)
          → f (image_of (elim b as (λ (c : Bool). State) [ true ↦ state s (Some k) | false ↦ elim k as (λ (n : ℕ). State) [ zero ↦ state s None | suc j ↦ state (apply x s) (Some j) ] ])) ≡ f s
      go true k = refl
      go false zero = refl
      go false (suc j) = h

  run_image : (xs : List Step) → Every LeavesRead xs → (z : State) → f (image_of (run xs z)) ≡ f (image_of z)
  unfolding run image_of
  run_image [] h z = refl
  run_image (x ∷ xs) h (state s r) = run_image xs h.1 (step x (state s r)) ∙ step_image x s r (h.0 s)

  pub step_leaves : (x : Step) (s t : Bytes) (r q : Run) → f (apply x s) ≡ f s → state t q ≡ step x (state s r) → f t ≡ f s
  unfolding image_of
  step_leaves x s t r q h e = ap (λ (z : State). f (image_of z)) e ∙ step_image x s r h

  pub run_leaves : (xs : List Step) (s t : Bytes) (r q : Run) → Every LeavesRead xs → state t q ≡ run xs (state s r) → f t ≡ f s
  unfolding image_of
  run_leaves xs s t r q h e = ap (λ (z : State). f (image_of z)) e ∙ run_image xs h (state s r)

-- the bytes from f on, k of them, where the programmed word lies before or behind
pub part_before : (a v f k : ℕ) → a + 2 ≤ f → LeavesRead (λ (s : Bytes). take k (drop f s)) (program a v)
unfolding apply
part_before a v f k h s =
    let w = bit_and (word s a) v in
    ap (λ (l : Bytes). take k (drop f l)) (lay_bytes s a w)
    ∙ ap (take k) (drop-set-lt f (set s a (w % 256)) (a + 1) (w / 256) (omega arith) ∙ drop-set-lt f s a (w % 256) (omega arith))

pub part_behind : (a v f k : ℕ) → f + k ≤ a → LeavesRead (λ (s : Bytes). take k (drop f s)) (program a v)
unfolding apply
part_behind a v f k h s = go (a - f) (omega arith)
  where
    go : (j : ℕ) → a ≡ f + j → take k (drop f (lay s a (bit_and (word s a) v))) ≡ take k (drop f s)
    go j e = ap (λ (l : Bytes). take k (drop f l)) (lay_bytes s a w ∙ ap₃) ∙ ap (take k) (drop-set-add f (set s (f + j) lo) (j + 1) hi ∙ ap (λ (l : Bytes). set l (j + 1) hi) (drop-set-add f s j lo))
        ∙ take-set-le k (set (drop f s) j lo) (j + 1) hi (omega arith) ∙ take-set-le k (drop f s) j lo (omega arith)
      where
        w : ℕ
        w = bit_and (word s a) v

        lo : ℕ
        lo = w % 256

        hi : ℕ
        hi = w / 256

        ap₃ : set (set s a lo) (a + 1) hi ≡ set (set s (f + j) lo) (f + (j + 1)) hi
        ap₃ =
            let q : a + 1 ≡ f + (j + 1) = omega arith in
            ap (λ (m : ℕ). set (set s a lo) m hi) q ∙ ap (λ (m : ℕ). set (set s m lo) (f + (j + 1)) hi) e

-- a tag, where flags are programmed
pub tag_leaves : (a v p : ℕ) → a % 8 ≡ 0 → p % 8 ≡ 0 → LeavesRead (λ (s : Bytes). word s (p + 6)) (program a v)
unfolding apply
tag_leaves a v p h k s = word_aside s a (bit_and (word s a) v) (p + 6) (omega arith) (omega arith) (omega arith)

-- the bytes behind an erased unit
pub erase_behind : (a k : ℕ) (s : Bytes) → a + k ≤ length s → drop (a + k) (apply (erase a k) s) ≡ drop (a + k) s
unfolding apply
erase_behind a k s h =
    ap (λ (n : ℕ). drop n (take a s ++ (replicate k 255 ++ drop (a + k) s))) here
    ∙ drop-append-add (take a s) (replicate k 255 ++ drop (a + k) s) (length (replicate {A = ℕ} k 255) + 0)
    ∙ drop-append-add (replicate k 255) (drop (a + k) s) 0
  where
    here : a + k ≡ length (take a s) + (length (replicate {A = ℕ} k 255) + 0)
    here = omega (arith, length-take-le a s (omega arith), length-replicate {A = ℕ} k 255)
