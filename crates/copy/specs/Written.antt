-- What programming words leaves where the bytes are FF: the words, and nothing else changed.
use Rattle.std.specs.Prelude.{ℕ, zero, suc, ◌+◌, ◌*◌, ◌≤◌, ◌<◌, ◌≡◌, Bool, true, false, List, [], ◌∷◌, eqb, length, get_or, take}
use Rattle.std.proofs.Common.{arith, sym, ap, ◌∙◌, eqb-true, eq-eqb}
use Rattle.std.proofs.Math.Path.{refl}
use Rattle.std.specs.Int.Bits.{bit_and}
use Rattle.rules.specs.Lists.{all}
use Rattle.rules.specs.Flash.{Bytes, word, lay, erased, program, apply, idle, made, finish, programs, words}
use Rattle.laws.specs.Words.{length_lay, word_drop, word_bytes, word_same, word_laid, byte_aside}
use Rattle.laws.specs.Frames.{Blank, and_erased}

-- m became m' by the k words v from a on
pub record WordsWritten (m m' : Bytes) (a k : ℕ) (v : ℕ → ℕ) : Type 0 where
  pub long : length m' ≡ length m
  pub there : (i : ℕ) → i < k → word m' (a + 2 * i) ≡ v i
  pub before : (b : ℕ) → b < a → get_or m' b 0 ≡ get_or m b 0
  pub after : (b : ℕ) → a + 2 * k ≤ b → get_or m' b 0 ≡ get_or m b 0

pub word_free : (m : Bytes) (a : ℕ) → get_or m a 0 ≡ 255 → get_or m (a + 1) 0 ≡ 255 → word m a ≡ 0xFFFF
word_free m a e f = word_bytes m a ∙ rw (e, f)

module _ (m : Bytes) (a v : ℕ) (h : a + 2 ≤ length m) (small : v < 65536) (free : Blank m a (a + 2)) where
  pub program_word : WordsWritten m (made (program a v) m) a 1 (λ (i : ℕ). v)
  unfolding made idle apply
  program_word = go (idle (program a v) m) refl
    where
      blank : word m a ≡ 0xFFFF
      blank = word_free m a (free a (omega arith) (omega arith)) (free (a + 1) (omega arith) (omega arith))

      target : bit_and (word m a) v ≡ v
      target = ap (λ (x : ℕ). bit_and x v) blank ∙ and_erased v small

      one : (i : ℕ) → i < 1 → a + 2 * i ≡ a
      one i l = omega arith

      go : (x : Bool) → eqb (bit_and (word m a) v) (word m a) ≡ x → WordsWritten m (elim x [ true ↦ m | false ↦ lay m a (bit_and (word m a) v) ]) a 1 (λ (i : ℕ). v)
      go true e =
          record {
            long = refl;
            there = λ i l. ap (word m) (one i l) ∙ sym (eqb-true (bit_and (word m a) v) (word m a) e) ∙ target;
            before = λ b l. refl;
            after = λ b l. refl;
          }
      go false e =
          rw target (record {
            long = length_lay m a v;
            there = λ i l. ap (word (lay m a v)) (one i l) ∙ word_laid m a v h;
            before = λ b l. byte_aside m a v b (λ e. omega arith) (λ e. omega arith);
            after = λ b l. byte_aside m a v b (λ e. omega arith) (λ e. omega arith);
          })

-- words one after the other
pub program_words : (ws : List ℕ) (m : Bytes) (a : ℕ) → a + 2 * length ws ≤ length m → ((i : ℕ) → i < length ws → get_or ws i 0 < 65536) → Blank m a (a + 2 * length ws)
    → WordsWritten m (finish (programs a ws) m) a (length ws) (λ (i : ℕ). get_or ws i 0)
unfolding finish programs
program_words [] m a h small free = record { long = refl; there = λ i l. absurd (omega arith); before = λ b l. refl; after = λ b l. refl }
program_words (w ∷ ws) m a h small free =
    let one = program_word m a w (omega arith) (small 0 (omega arith)) (λ i x y. free i x (omega arith)) in
    let m1 = made (program a w) m in
    joined (made (program a w) m) one
    (program_words ws (made (program a w) m) (a + 2) (rw one.long (omega arith)) (λ i l. small (suc i) (omega arith))
    (λ i x y. one.after i (omega arith) ∙ free i (omega arith) (omega arith)))
  where
    joined : (m1 : Bytes) → WordsWritten m m1 a 1 (λ (i : ℕ). w) → WordsWritten m1 (finish (programs (a + 2) ws) m1) (a + 2) (length ws) (λ (i : ℕ). get_or ws i 0)
        → WordsWritten m (finish (programs (a + 2) ws) m1) a (suc (length ws)) (λ (i : ℕ). get_or (w ∷ ws) i 0)
    joined m1 x y =
        record {
          long = y.long ∙ x.long;
          there = at;
          before = λ b l. y.before b (omega arith) ∙ x.before b l;
          after = λ b l. y.after b (omega arith) ∙ x.after b (omega arith);
        }
      where
        at : (i : ℕ) → i < suc (length ws) → word (finish (programs (a + 2) ws) m1) (a + 2 * i) ≡ get_or (w ∷ ws) i 0
        at zero l =
            let e : a + 2 * 0 ≡ a = omega arith in
            rw e (word_same (finish (programs (a + 2) ws) m1) m1 a a (y.before a (omega arith)) (y.before (a + 1) (omega arith)) ∙ rw e at (x.there 0 (omega arith)))
        at (suc i) l =
            let e : a + 2 * suc i ≡ a + 2 + 2 * i = omega arith in
            rw e (y.there i (omega arith))

-- the words of an even number of bytes
pub record Words (k : ℕ) (l : Bytes) : Type 0 where
  pub long : length (words l) ≡ k
  pub each : (i : ℕ) → i < k → get_or (words l) i 0 ≡ word l (2 * i)

pub words_are : (k : ℕ) (l : Bytes) → length l ≡ 2 * k → Words k l
unfolding words word
words_are zero [] h = record { long = refl; each = λ i l. absurd (omega arith) }
words_are zero (x ∷ l) h = absurd (omega arith)
words_are (suc k) [] h = absurd (omega arith)
words_are (suc k) (x ∷ []) h = absurd (omega arith)
words_are (suc k) (x ∷ y ∷ l) h = more (words_are k l (omega arith))
  where
    more : Words k l → Words (suc k) (x ∷ y ∷ l)
    more t = record { long = ap suc t.long; each = each1 }
      where
        each1 : (i : ℕ) → i < suc k → get_or ((x + 256 * y) ∷ words l) i 0 ≡ word (x ∷ y ∷ l) (2 * i)
        each1 zero h = refl
        each1 (suc i) h =
            let e : 2 * suc i ≡ 2 + 2 * i = omega arith in
            rw e (t.each i (omega arith) ∙ word_drop 2 (x ∷ y ∷ l) (2 * i))

-- FF bytes are erased
pub free_erased : (k : ℕ) (l : Bytes) → Blank l 0 k → k ≤ length l → erased (take k l) ≡ true
unfolding erased all
free_erased zero l f h = refl
free_erased (suc k) [] f h = refl
free_erased (suc k) (x ∷ l) f h =
    let e : eqb 255 x ≡ true = eq-eqb 255 x (sym (f 0 (omega arith) (omega arith))) in
    rw (e, all) (free_erased k l (λ i a b. f (suc i) (omega arith) (omega arith)) (omega arith))
