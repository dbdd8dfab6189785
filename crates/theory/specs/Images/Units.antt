-- An image as its list of units, and what a step does to it.
use Rattle.std.specs.Prelude.{Bool, false, true, ◌≢◌, ◌≡◌, get_or, replicate, set}
use Rattle.std.proofs.Math.Bool.{cond}
use mathlib.Core.List.{List, [], ◌++◌, ◌∷◌, append_assoc}
use Rattle.std.proofs.Common.{◌∙◌, sym, le_of_suc-le-suc, not-suc-le-zero, zero-add, drop-drop, take_at}
use Rattle.std.proofs.Math.Path.{ap, ap₂, refl}
use Prim.Native.Nat.{◌*◌, ◌+◌, ◌<◌, suc, zero, ℕ}
use native.Mathlib.Omega.{arith}
use Rattle.std.specs.Int.Bits.{bit_and}
use Rattle.std.proofs.Math.ListN.{drop, length, length-append, take}
use Rattle.std.proofs.Math.Seq.{drop_at}
use Rattle.rules.specs.Flash.{Bytes, apply, erase, idle, made, program, word}
use Rattle.rules.specs.Lists.{filter}
use Rattle.rules.specs.Settled.{Physical, physical, units_from}
use Rattle.rules.specs.declared.Geometry.{Geometry}
use Rattle.theory.specs.Base.Along.{le, programmed, word_at_lem}

abbrev pub join : List Bytes → Bytes
join [] = []
join (u ∷ us) = u ++ join us

-- each unit has S bytes
abbrev pub Sized : ℕ → List Bytes → Type 0
Sized S [] = Unit {0}
Sized S (u ∷ us) = (length u ≡ S) × Sized S us

module _ (g : Geometry) where
  pub sized_set : (us : List Bytes) (k : ℕ) (u : Bytes) → Sized g.size us → length u ≡ g.size → Sized g.size (set us k u)
  sized_set [] k u h e = tt
  sized_set (x ∷ us) zero u h e = (e, h.1)
  sized_set (x ∷ us) (suc k) u h e = (h.0, sized_set us k u h.1 e)

  pub sized_get : (us : List Bytes) (k : ℕ) → Sized g.size us → k < length us → length (get_or us k []) ≡ g.size
  sized_get [] k h l = absurd (not-suc-le-zero l)
  sized_get (x ∷ us) zero h l = h.0
  sized_get (x ∷ us) (suc k) h l = sized_get us k h.1 (le_of_suc-le-suc l)

  pub length_join : (us : List Bytes) → Sized g.size us → length (join us) ≡ length us * g.size
  length_join [] h = omega arith
  length_join (u ∷ us) h = length-append u (join us) ∙ omega' (length us) (length u) (length (join us)) h.0 (length_join us h.1)
    where
      omega' : (n a b : ℕ) → a ≡ g.size → b ≡ n * g.size → a + b ≡ suc n * g.size
      omega' n a b p q = omega arith

  -- a word of unit k: the general form goes over what stands before
  program_after : (z : Bytes) (us : List Bytes) (k : ℕ) (xs : Bytes) (w v : ℕ) (r : Bytes) → Sized g.size us → k < length us
      → get_or us k [] ≡ xs ++ le w r
      → made (program (length z + (k * g.size + length xs)) v) (z ++ join us) ≡ z ++ join (set us k (xs ++ le (bit_and w v) r))
  program_after z [] k xs w v r h l e = absurd (not-suc-le-zero l)
  program_after z (u ∷ us) zero xs w v r h l e =
      ap₂ (λ (a : ℕ) (y : Bytes). made (program a v) y) here there
      ∙ programmed (z ++ xs) w v (r ++ join us)
      ∙ append_assoc z xs (le (bit_and w v) (r ++ join us))
      ∙ ap (λ (y : Bytes). z ++ y) (sym (append_assoc xs (le (bit_and w v) r) (join us)))
    where
      here : length z + (zero * g.size + length xs) ≡ length (z ++ xs)
      here = simp length-append (omega arith)

      there : z ++ (u ++ join us) ≡ (z ++ xs) ++ le w (r ++ join us)
      there = ap (λ (y : Bytes). z ++ (y ++ join us)) e ∙ ap (λ (y : Bytes). z ++ y) (append_assoc xs (le w r) (join us))
          ∙ sym (append_assoc z xs (le w (r ++ join us)))
  program_after z (u ∷ us) (suc k) xs w v r h l e =
      ap₂ (λ (a : ℕ) (y : Bytes). made (program a v) y) here (sym (append_assoc z u (join us)))
      ∙ program_after (z ++ u) us k xs w v r h.1 (le_of_suc-le-suc l) e
      ∙ append_assoc z u (join (set us k (xs ++ le (bit_and w v) r)))
    where
      here : length z + (suc k * g.size + length xs) ≡ length (z ++ u) + (k * g.size + length xs)
      here = simp length-append (omega (arith, h.0))

  -- a word of unit k, at the offset of what stands before it there
  pub program_unit : (us : List Bytes) (k : ℕ) (xs : Bytes) (w v : ℕ) (r : Bytes) → Sized g.size us → k < length us
      → get_or us k [] ≡ xs ++ le w r
      → made (program (k * g.size + length xs) v) (join us) ≡ join (set us k (xs ++ le (bit_and w v) r))
  program_unit us k xs w v r h l e =
      ap (λ (a : ℕ). made (program a v) (join us)) (sym (zero-add (k * g.size + length xs))) ∙ program_after [] us k xs w v r h l e

  -- the units where they lie in the image
  abbrev pub units_at : ℕ → List Bytes → List Physical
  units_at a [] = []
  units_at a (u ∷ us) = physical a u ∷ units_at (a + g.size) us

  pub units_join : (us : List Bytes) (a : ℕ) → Sized g.size us → units_from g (length us) a (join us) ≡ units_at a us
  unfolding units_from
  units_join [] a h = refl
  units_join (u ∷ us) a h =
      ap₂ {C = List Physical} (λ (x : Bytes) (y : List Physical). physical a x ∷ y) (take_at u (join us) g.size h.0)
      (ap (λ (z : Bytes). units_from g (length us) (a + g.size) z) (drop_at u (join us) g.size h.0) ∙ units_join us (a + g.size) h.1)

  -- the one unit that passes
  pub none_pass : (f : Physical → Bool) (us : List Bytes) (a : ℕ)
      → ((j : ℕ) → j < length us → f (physical (a + j * g.size) (get_or us j [])) ≡ false) → filter f (units_at a us) ≡ []
  unfolding filter
  none_pass f [] a h = refl
  none_pass f (u ∷ us) a h =
      ap (λ (b : Bool). cond b (physical a u ∷ filter f (units_at (a + g.size) us)) (filter f (units_at (a + g.size) us)))
      (ap (λ (x : ℕ). f (physical x u)) here ∙ h 0 (omega arith))
      ∙ none_pass f us (a + g.size) (λ j l. ap (λ (x : ℕ). f (physical x (get_or us j []))) (there j) ∙ h (suc j) (omega arith))
    where
      here : a ≡ a + 0 * g.size
      here = omega arith

      there : (j : ℕ) → a + g.size + j * g.size ≡ a + suc j * g.size
      there j = omega arith

  pub one_pass : (f : Physical → Bool) (us : List Bytes) (a k : ℕ) → k < length us → f (physical (a + k * g.size) (get_or us k [])) ≡ true
      → ((j : ℕ) → j < length us → j ≢ k → f (physical (a + j * g.size) (get_or us j [])) ≡ false)
      → filter f (units_at a us) ≡ physical (a + k * g.size) (get_or us k []) ∷ []
  unfolding filter
  one_pass f [] a k l t h = absurd (not-suc-le-zero l)
  one_pass f (u ∷ us) a zero l t h =
      ap (λ (b : Bool). cond b (physical a u ∷ filter f (units_at (a + g.size) us)) (filter f (units_at (a + g.size) us))) (ap (λ (x : ℕ). f (physical x u)) here ∙ t)
      ∙ ap₂ {C = List Physical} (λ (b : ℕ) (y : List Physical). physical b u ∷ y) here
      (none_pass f us (a + g.size) (λ j m. ap (λ (x : ℕ). f (physical x (get_or us j []))) (there j) ∙ h (suc j) (omega arith) (omega arith)))
    where
      here : a ≡ a + 0 * g.size
      here = omega arith

      there : (j : ℕ) → a + g.size + j * g.size ≡ a + suc j * g.size
      there j = omega arith
  one_pass f (u ∷ us) a (suc k) l t h =
      ap (λ (b : Bool). cond b (physical a u ∷ filter f (units_at (a + g.size) us)) (filter f (units_at (a + g.size) us)))
      (ap (λ (x : ℕ). f (physical x u)) here ∙ h 0 (omega arith) (omega arith))
      ∙ one_pass f us (a + g.size) k (le_of_suc-le-suc l) (ap (λ (x : ℕ). f (physical x (get_or us k []))) (there k) ∙ t)
      (λ j m n. ap (λ (x : ℕ). f (physical x (get_or us j []))) (there j) ∙ h (suc j) (omega arith) (omega arith))
      ∙ ap (λ (b : ℕ). physical b (get_or us k []) ∷ []) (there k)
    where
      here : a ≡ a + 0 * g.size
      here = omega arith

      there : (j : ℕ) → a + g.size + j * g.size ≡ a + suc j * g.size
      there j = omega arith

  -- THE law of an erased unit
  erase_after : (z : Bytes) (us : List Bytes) (k : ℕ) → Sized g.size us → k < length us
      → made (erase (length z + k * g.size) g.size) (z ++ join us) ≡ z ++ join (set us k (replicate g.size 255))
  unfolding made idle apply
  erase_after z [] k h l = absurd (not-suc-le-zero l)
  erase_after z (u ∷ us) zero h l =
      ap (λ (a : ℕ). take a (z ++ (u ++ join us)) ++ (replicate g.size 255 ++ drop (a + g.size) (z ++ (u ++ join us)))) here
      ∙ ap₂ (λ (a b : Bytes). a ++ (replicate g.size 255 ++ b)) (take_at z (u ++ join us) (length z) refl)
      (sym (drop-drop g.size (length z) (z ++ (u ++ join us))) ∙ ap (drop g.size) (drop_at z (u ++ join us) (length z) refl) ∙ drop_at u (join us) g.size h.0)
    where
      here : length z + 0 * g.size ≡ length z
      here = omega arith
  erase_after z (u ∷ us) (suc k) h l =
      ap₂ (λ (a : ℕ) (y : Bytes). made (erase a g.size) y) here (sym (append_assoc z u (join us)))
      ∙ erase_after (z ++ u) us k h.1 (le_of_suc-le-suc l)
      ∙ append_assoc z u (join (set us k (replicate g.size 255)))
    where
      here : length z + suc k * g.size ≡ length (z ++ u) + k * g.size
      here = simp length-append (omega (arith, h.0))

  pub erase_unit : (us : List Bytes) (k : ℕ) → Sized g.size us → k < length us
      → made (erase (k * g.size) g.size) (join us) ≡ join (set us k (replicate g.size 255))
  erase_unit us k h l = ap (λ (a : ℕ). made (erase a g.size) (join us)) (sym (zero-add (k * g.size))) ∙ erase_after [] us k h l

  -- the word that stands there
  pub word_unit : (us : List Bytes) (k : ℕ) (xs : Bytes) (w : ℕ) (r : Bytes) → Sized g.size us → k < length us → get_or us k [] ≡ xs ++ le w r → word (join us) (k * g.size + length xs) ≡ w
  word_unit us k xs w r h l e = ap (λ (a : ℕ). word (join us) a) (sym (zero-add (k * g.size + length xs))) ∙ word_after [] us k h l e
    where
      word_after : (z : Bytes) (us : List Bytes) (k : ℕ) → Sized g.size us → k < length us → get_or us k [] ≡ xs ++ le w r → word (z ++ join us) (length z + (k * g.size + length xs)) ≡ w
      word_after z [] k h l e = absurd (not-suc-le-zero l)
      word_after z (u ∷ us) zero h l e =
          ap₂ (λ (a : ℕ) (y : Bytes). word y a) here there ∙ word_at_lem (z ++ xs) w (r ++ join us)
        where
          here : length z + (zero * g.size + length xs) ≡ length (z ++ xs)
          here = simp length-append (omega arith)

          there : z ++ (u ++ join us) ≡ (z ++ xs) ++ le w (r ++ join us)
          there =
              ap (λ (y : Bytes). z ++ (y ++ join us)) e
              ∙ ap (λ (y : Bytes). z ++ y) (append_assoc xs (le w r) (join us))
              ∙ sym (append_assoc z xs (le w (r ++ join us)))
      word_after z (u ∷ us) (suc k) h l e =
          ap₂ (λ (a : ℕ) (y : Bytes). word y a) here (sym (append_assoc z u (join us))) ∙ word_after (z ++ u) us k h.1 (le_of_suc-le-suc l) e
        where
          here : length z + (suc k * g.size + length xs) ≡ length (z ++ u) + (k * g.size + length xs)
          here = simp length-append (omega (arith, h.0))
