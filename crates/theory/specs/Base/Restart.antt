-- A job of programmed words that is begun again: the words that stand are no steps, and the rest are the steps that were left.
use Rattle.std.specs.Prelude.{Bool, ◌&&◌, false, ◌≡◌, ◌%◌, ◌*◌, ◌+◌, ◌/◌, ◌<◌, ◌≤◌, min, suc, zero, ℕ, eqb, ltb, drop, get_or}
use Rattle.std.proofs.Math.Bool.{true}
use mathlib.Core.List.{List, [], ◌∷◌}
use Rattle.std.proofs.Common.{◌∙◌, ap₂, subst, sym, arith}
use Rattle.std.proofs.Math.Path.{ap, refl}
use Rattle.std.proofs.Math.Decide.{ℕ_discrete}
use Rattle.std.proofs.lemmas.Nat.{and_comm, and_shr}
use Rattle.std.specs.Int.Bits.{and_self, and_step, and_zero_l, bit_and}
use Rattle.std.proofs.Math.ListN.{length}
use Rattle.rules.specs.Flash.{Bytes, Step, apply, erase, finish, idle, lay, made, program, steps_of, word}
use Rattle.rules.specs.Lists.{all}
use Rattle.laws.specs.Words.{word_aside, word_laid}
use Rattle.theory.specs.Base.Facts.{all_uncons, and_l, and_r, eq_of, eqb_same, lt_of, true_false}
use Rattle.theory.specs.Base.Along.{steps_finish}

-- a step that programs a word at an even offset, inside n bytes
abbrev pub is_word_in : ℕ → Step → Bool
is_word_in n (program a v) = eqb (a % 2) 0 && ltb (a + 1) n
is_word_in n (erase a k) = false

-- AND is associative, bit by bit
half : (a b : ℕ) → bit_and a b / 2 ≡ bit_and (a / 2) (b / 2)
half a b = and_shr a b 1

bit : (a b : ℕ) → bit_and a b % 2 ≡ min (a % 2) (b % 2)
bit a b = low (bit_and (a / 2) (b / 2)) (bit_and a b) (and_step a b)
  where
    low : (x y : ℕ) → y ≡ x * 2 + min (a % 2) (b % 2) → y % 2 ≡ min (a % 2) (b % 2)
    low x y e = omega arith

assoc_in : (k a b c : ℕ) → a ≤ k → bit_and (bit_and a b) c ≡ bit_and a (bit_and b c)
assoc_in zero a b c h = subst (λ (x : ℕ). bit_and (bit_and x b) c ≡ bit_and x (bit_and b c)) (sym none) (ap (λ (x : ℕ). bit_and x c) (and_zero_l b) ∙ and_zero_l c ∙ sym (and_zero_l (bit_and b c)))
  where
    none : a ≡ 0
    none = omega arith
assoc_in (suc k) a b c h =
    and_step (bit_and a b) c
    ∙ ap₂ (λ (x y : ℕ). x * 2 + y)
    (ap (λ (x : ℕ). bit_and x (c / 2)) (half a b) ∙ assoc_in k (a / 2) (b / 2) (c / 2) (omega arith) ∙ ap (bit_and (a / 2)) (sym (half b c)))
    (ap (λ (x : ℕ). min x (c % 2)) (bit a b) ∙ least (a % 2) (b % 2) (c % 2) ∙ ap (min (a % 2)) (sym (bit b c)))
    ∙ sym (and_step a (bit_and b c))
  where
    least : (x y z : ℕ) → min (min x y) z ≡ min x (min y z)
    least x y z = omega arith

pub and_assoc : (a b c : ℕ) → bit_and (bit_and a b) c ≡ bit_and a (bit_and b c)
and_assoc a b c = assoc_in a a b c (omega arith)

record WordPlace (n a : ℕ) : Type 0 where
  even : a % 2 ≡ 0
  inside : a + 1 < n

at_of : (n a v : ℕ) → is_word_in n (program a v) ≡ true → WordPlace n a
at_of n a v h = record { even = eq_of (a % 2) 0 (and_l (eqb (a % 2) 0) (ltb (a + 1) n) h); inside = lt_of (a + 1) n (and_r (eqb (a % 2) 0) (ltb (a + 1) n) h) }

-- what is idle stays idle while words are programmed
idle_keeps : (x y : Step) (s : Bytes) → is_word_in (length s) x ≡ true → is_word_in (length s) y ≡ true → idle x s ≡ true → idle x (apply y s) ≡ true
unfolding idle apply
idle_keeps (erase a k) y s h i j = true_false false h refl
idle_keeps (program a v) (erase b k) s h i j = true_false false i refl
idle_keeps (program a v) (program b w) s h i j = go (ℕ_discrete a b)
  where
    A : WordPlace (length s) a
    A = at_of (length s) a v h

    B : WordPlace (length s) b
    B = at_of (length s) b w i

    held : bit_and (word s a) v ≡ word s a
    held = eq_of (bit_and (word s a) v) (word s a) j

    still : bit_and (bit_and (word s a) w) v ≡ bit_and (word s a) w
    still = and_assoc (word s a) w v ∙ ap (bit_and (word s a)) (and_comm w v) ∙ sym (and_assoc (word s a) v w) ∙ ap (λ (x : ℕ). bit_and x w) held

    go : Dec (a ≡ b) → eqb (bit_and (word (lay s b (bit_and (word s b) w)) a) v) (word (lay s b (bit_and (word s b) w)) a) ≡ true
    go (yes e) =
        ap (λ (n : ℕ). eqb (bit_and n v) n) (ap (λ (n : ℕ). word (lay s n (bit_and (word s n) w)) a) (sym e) ∙ word_laid s a (bit_and (word s a) w) (omega (arith, A.inside)))
        ∙ ap (λ (n : ℕ). eqb n (bit_and (word s a) w)) still ∙ eqb_same (bit_and (word s a) w)
    go (no n) = ap (λ (n : ℕ). eqb (bit_and n v) n) (word_aside s b (bit_and (word s b) w) a n (omega (arith, A.even, B.even)) (omega (arith, A.even, B.even))) ∙ j

made_idle : (x : Step) (s : Bytes) → is_word_in (length s) x ≡ true → idle x (apply x s) ≡ true
unfolding idle apply
made_idle (erase a k) s h = true_false false h refl
made_idle (program a v) s h =
    ap (λ (n : ℕ). eqb (bit_and n v) n) (word_laid s a (bit_and (word s a) v) (omega (arith, (at_of (length s) a v h).inside)))
    ∙ ap (λ (n : ℕ). eqb n (bit_and (word s a) v)) (and_assoc (word s a) v v ∙ ap (bit_and (word s a)) (and_self v)) ∙ eqb_same (bit_and (word s a) v)

-- THE law of restarting: after the first step of such a job, its steps are those that were left
module _ (n : ℕ) where
  pub steps_again : (xs : List Step) (s : Bytes) → length s ≡ n → all (is_word_in n) xs ≡ true → (x : Step) (ys : List Step) → steps_of xs s ≡ x ∷ ys
      → (is_word_in n x ≡ true) × (idle x s ≡ false) × (steps_of xs (apply x s) ≡ ys)
  unfolding steps_of
  steps_again [] s l h x ys q = absurd (let z : ⊥ = omega (arith, ap length q) in z)
  steps_again (z ∷ zs) s l h x ys q = go (idle z s) refl q (steps_again zs s l (all_uncons (is_word_in n) z zs h).1 x ys)
    where
      wz : is_word_in n z ≡ true
      wz = (all_uncons (is_word_in n) z zs h).0

      at_s : (y : Step) → is_word_in n y ≡ true → is_word_in (length s) y ≡ true
      at_s y w = ap (λ (m : ℕ). is_word_in m y) l ∙ w

      then' : (i : Bool) → idle z (apply x s) ≡ i → i ≡ true → steps_of zs (apply x s) ≡ ys → steps_of (z ∷ zs) (apply x s) ≡ ys
      then' i e t r = ap (λ (b : Bool). elim b as (λ j. List Step) [ true ↦ steps_of zs (apply x s) | false ↦ z ∷ steps_of zs (apply z (apply x s)) ]) (e ∙ t) ∙ r

      go : (i : Bool) → idle z s ≡ i → (elim i as (λ j. List Step) [ true ↦ steps_of zs s | false ↦ z ∷ steps_of zs (apply z s) ]) ≡ x ∷ ys
          → (steps_of zs s ≡ x ∷ ys → (is_word_in n x ≡ true) × (idle x s ≡ false) × (steps_of zs (apply x s) ≡ ys))
          → (is_word_in n x ≡ true) × (idle x s ≡ false) × (steps_of (z ∷ zs) (apply x s) ≡ ys)
      go true e k f =
          let r = f k in
          (r.0, r.1, then' (idle z (apply x s)) refl (idle_keeps z x s (at_s z wz) (at_s x r.0) e) r.2)
      go false e k f = (
        subst (λ (y : Step). is_word_in n y ≡ true) same wz,
        ap (λ (y : Step). idle y s) (sym same) ∙ e,
        then' (idle z (apply x s)) refl (subst (λ (y : Step). idle z (apply y s) ≡ true) same (made_idle z s (at_s z wz))) (ap (λ (y : Step). steps_of zs (apply y s)) (sym same) ∙ ap (λ (l : List Step). drop 1 l) k),
      )
        where
          same : z ≡ x
          same = ap (λ (l : List Step). get_or l 0 z) k

-- the end is the same from after the first step
pub finish_again : (xs : List Step) (s : Bytes) (x : Step) (ys : List Step) → steps_of xs s ≡ x ∷ ys → steps_of xs (apply x s) ≡ ys → idle x s ≡ false → finish xs (apply x s) ≡ finish xs s
unfolding finish made
finish_again xs s x ys q r i =
    sym (steps_finish xs (apply x s)) ∙ ap (λ (l : List Step). finish l (apply x s)) r
    ∙ sym (sym (steps_finish xs s) ∙ ap (λ (l : List Step). finish l s) q ∙ ap (λ (b : Bool). finish ys (elim b as (λ j. Bytes) [ true ↦ s | false ↦ apply x s ])) i)
