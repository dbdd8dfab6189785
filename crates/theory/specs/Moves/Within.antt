-- A receiving unit: each of its words is erased or the copy's. A step of the copying keeps that.
use Rattle.std.specs.Prelude.{Bool, ◌&&◌, ◌||◌, false, true, List, [], ◌++◌, ◌∷◌, ◌≡◌, refl, ◌%◌, ◌/◌, ◌<◌, suc, ℕ, eqb, length}
use Rattle.std.proofs.Common.{◌∙◌, ap, ap₂, sym, arith, length-append}
use Rattle.std.specs.Int.Bits.{and_self, bit_and}
use Rattle.rules.specs.Flash.{Bytes, Step, erase, made, program}
use Rattle.rules.specs.Sound.{is_within}
use Rattle.laws.specs.Frames.{and_erased}
use Rattle.theory.specs.Base.Facts.{and_l, and_r, both, eq_of, eqb_same, or_right, true_false}
use Rattle.theory.specs.Base.Along.{le, programmed}

abbrev pub Even : Bytes → Type 0
Even [] = Unit {0}
Even (x ∷ []) = ⊥
Even (x ∷ (y ∷ xs)) = Even xs

-- a word is erased, or the copy's
pub data Either (w v : ℕ) : Type 0 where
  still : w ≡ 0xFFFF → Either w v
  there : w ≡ v → Either w v

pub either_and : (w v : ℕ) → v < 65536 → Either w v → bit_and w v ≡ v
either_and w v h (still e) = ap (λ (x : ℕ). bit_and x v) e ∙ and_erased v h
either_and w v h (there e) = ap (λ (x : ℕ). bit_and x v) e ∙ and_self v

pub record Word (r C1 : Bytes) (v : ℕ) (C2 : Bytes) : Type 0 where
  pub R1 : Bytes
  pub R2 : Bytes
  pub w : ℕ
  pub whole : r ≡ R1 ++ le w R2
  pub len : length R1 ≡ length C1
  pub which : Either w v
  pub after : is_within (R1 ++ le v R2) (C1 ++ le v C2) ≡ true

pair_of_lem : (a b w : ℕ) → eqb a (w % 256) && eqb b (w / 256) ≡ true → (r : Bytes) → a ∷ (b ∷ r) ≡ le w r
pair_of_lem a b w h r = λ i. eq_of a (w % 256) (and_l (eqb a (w % 256)) (eqb b (w / 256)) h) i ∷ (eq_of b (w / 256) (and_r (eqb a (w % 256)) (eqb b (w / 256)) h) i ∷ r)

within_le : (v : ℕ) (r c : Bytes) → is_within r c ≡ true → is_within (le v r) (le v c) ≡ true
unfolding is_within
within_le v r c h = ap (λ (b : Bool). elim b as (λ j. Bool) [ true ↦ is_within r c | false ↦ false ]) (or_right (eqb (v % 256) 255 && eqb (v / 256) 255) (both (eqb_same (v % 256)) (eqb_same (v / 256)))) ∙ h

pub within_at : (C1 : Bytes) (v : ℕ) (C2 r : Bytes) → Even C1 → is_within r (C1 ++ le v C2) ≡ true → length r ≡ length (C1 ++ le v C2) → Word r C1 v C2
unfolding is_within
within_at [] v C2 [] ev h l = absurd (let z : ⊥ = omega arith in z)
within_at [] v C2 (a ∷ []) ev h l = absurd (let z : ⊥ = omega arith in z)
within_at [] v C2 (a ∷ (b ∷ r)) ev h l = go (eqb a 255 && eqb b 255) (eqb a (v % 256) && eqb b (v / 256)) refl refl h
  where
    go : (x y : Bool) → eqb a 255 && eqb b 255 ≡ x → eqb a (v % 256) && eqb b (v / 256) ≡ y → (elim (x || y) as (λ j. Bool) [ true ↦ is_within r C2 | false ↦ false ]) ≡ true → Word (a ∷ (b ∷ r)) [] v C2
    go true y p q k = record { R1 = []; R2 = r; w = 0xFFFF; whole = pair_of_lem a b 0xFFFF p r; len = refl; which = still refl; after = within_le v r C2 k }
    go false true p q k = record { R1 = []; R2 = r; w = v; whole = pair_of_lem a b v q r; len = refl; which = there refl; after = within_le v r C2 k }
    go false false p q k = true_false false k refl
within_at (x ∷ []) v C2 r ev h l = absurd ev
within_at (x ∷ (y ∷ C1)) v C2 [] ev h l = absurd (let z : ⊥ = omega arith in z)
within_at (x ∷ (y ∷ C1)) v C2 (a ∷ []) ev h l = absurd (let z : ⊥ = omega (arith, length-append C1 (le v C2)) in z)
within_at (x ∷ (y ∷ C1)) v C2 (a ∷ (b ∷ r)) ev h l = go ((eqb a 255 && eqb b 255) || (eqb a x && eqb b y)) refl h (λ k. within_at C1 v C2 r ev k (omega arith))
  where
    go : (t : Bool) → (eqb a 255 && eqb b 255) || (eqb a x && eqb b y) ≡ t → (elim t as (λ j. Bool) [ true ↦ is_within r (C1 ++ le v C2) | false ↦ false ]) ≡ true
        → (is_within r (C1 ++ le v C2) ≡ true → Word r C1 v C2) → Word (a ∷ (b ∷ r)) (x ∷ (y ∷ C1)) v C2
    go true p k f =
        let w = f k in
        record {
          R1 = a ∷ (b ∷ w.R1);
          R2 = w.R2;
          w = w.w;
          whole = ap (λ (z : Bytes). a ∷ (b ∷ z)) w.whole;
          len = ap (λ (z : ℕ). suc (suc z)) w.len;
          which = w.which;
          after = ap (λ (t : Bool). elim t as (λ j. Bool) [ true ↦ is_within (w.R1 ++ le v w.R2) (C1 ++ le v C2) | false ↦ false ]) p ∙ w.after;
        }
    go false p k f = true_false false k refl

-- ---- a copy, and the steps that write it
pub data WritesCopy (c : Bytes) : List Step → Type 0 where
  written : WritesCopy c []
  writing : {xs : List Step} (C1 : Bytes) (v : ℕ) (C2 : Bytes) (a : ℕ) → c ≡ C1 ++ le v C2 → Even C1 → length C1 ≡ a → v < 65536 → WritesCopy c xs → WritesCopy c (program a v ∷ xs)

pub record Receiving (c r : Bytes) : Type 0 where
  pub part : is_within r c ≡ true
  pub len : length r ≡ length c

-- a step that writes the copy leaves its word there
pub word_laid : (r C1 : Bytes) (v : ℕ) (C2 : Bytes) → v < 65536 → (w : Word r C1 v C2) → made (program (length C1) v) r ≡ w.R1 ++ le v w.R2
word_laid r C1 v C2 h w = ap₂ (λ (a : ℕ) (x : Bytes). made (program a v) x) (sym w.len) w.whole ∙ programmed w.R1 w.w v w.R2 ∙ ap (λ (x : ℕ). w.R1 ++ le x w.R2) (either_and w.w v h w.which)

-- a step that writes the copy: the unit receives still, and the word is the copy's
pub receive : (c r C1 : Bytes) (v : ℕ) (C2 : Bytes) → c ≡ C1 ++ le v C2 → Even C1 → v < 65536 → Receiving c r → Receiving c (made (program (length C1) v) r)
receive c r C1 v C2 q ev h k =
    record { part = ap₂ is_within made_is q ∙ w.after; len = ap length made_is ∙ same_len ∙ ap length (sym w.whole) ∙ k.len }
  where
    w : Word r C1 v C2
    w = within_at C1 v C2 r ev (ap (is_within r) (sym q) ∙ k.part) (k.len ∙ ap length q)

    made_is : made (program (length C1) v) r ≡ w.R1 ++ le v w.R2
    made_is = word_laid r C1 v C2 h w

    same_len : length (w.R1 ++ le v w.R2) ≡ length (w.R1 ++ le w.w w.R2)
    same_len = length-append w.R1 (le v w.R2) ∙ sym (length-append w.R1 (le w.w w.R2))

pub writes_append : (c : Bytes) (xs ys : List Step) → WritesCopy c xs → WritesCopy c ys → WritesCopy c (xs ++ ys)
writes_append c [] ys written t = t
writes_append c (program a v ∷ xs) ys (writing C1 w C2 b q ev e h s) t = writing C1 w C2 b q ev e h (writes_append c xs ys s t)
writes_append c (erase _ _ ∷ xs) ys w t = elim w [ ]

pub writes_tail : (c : Bytes) (x : Step) (xs : List Step) → WritesCopy c (x ∷ xs) → WritesCopy c xs
writes_tail c (program a v) xs (writing C1 w C2 b q ev e h s) = s
writes_tail c (erase _ _) xs w = elim w [ ]
