-- The copying as steps of the image: whatever stands after each of them can be mounted.
use Rattle.std.specs.Prelude.{Bool, cond, false, true, ◌≡◌, refl, ◌*◌, ◌+◌, ◌<◌, ℕ, eqb, drop, get_or, length, set, take}
use mathlib.Core.List.{List, [], ◌++◌, ◌∷◌}
use Rattle.std.proofs.Common.{◌∙◌, ap, ap₂, subst, sym, zero-add, arith, get_or-set_same}
use Rattle.std.specs.Int.Bits.{bit_and}
use Rattle.rules.specs.Copy.{copies, copy_of, is_kept}
use Rattle.rules.specs.Flash.{Bytes, Step, erase, finish, made, program, programs, word, words}
use Rattle.rules.specs.Lists.{all}
use Rattle.rules.specs.Settled.{counts, is_quiet}
use Rattle.rules.specs.Sound.{is_within}
use Rattle.rules.specs.Unit.{Descriptor, size}
use Rattle.rules.specs.declared.Geometry.{Geometry}
use Rattle.laws.specs.Words.{two_bytes}
use Rattle.theory.specs.Base.Along.{Along, le, programmed}
use Rattle.theory.specs.Images.Units.{join, program_unit, sized_get}
use Rattle.theory.specs.Images.Model.{all_entries, LaidHome, Stands, is_up, laid, no_laid_home}
use Rattle.theory.specs.Images.Stand.{Mountable}
use Rattle.theory.specs.Moves.Within.{Even, Receiving, Word, WritesCopy, receive, within_at, word_laid, writing, written}
use Rattle.theory.specs.Moves.Moving.{mountable_receiving, spared}

abbrev pub shifted : ℕ → List Step → List Step
shifted b [] = []
shifted b (program a v ∷ xs) = program (b + a) v ∷ shifted b xs
shifted b (erase a k ∷ xs) = erase (b + a) k ∷ shifted b xs

shifted_append : (b : ℕ) (xs ys : List Step) → shifted b (xs ++ ys) ≡ shifted b xs ++ shifted b ys
shifted_append b [] ys = refl
shifted_append b (program a v ∷ xs) ys = ap {B = List Step} (λ (l : List Step). program (b + a) v ∷ l) (shifted_append b xs ys)
shifted_append b (erase a k ∷ xs) ys = ap {B = List Step} (λ (l : List Step). erase (b + a) k ∷ l) (shifted_append b xs ys)

programs_shift : (b a : ℕ) (ws : Bytes) → programs (b + a) ws ≡ shifted b (programs a ws)
unfolding programs
programs_shift b a [] = refl
programs_shift b a (w ∷ ws) = ap {B = List Step} (λ (l : List Step). program (b + a) w ∷ l) (ap (λ (n : ℕ). programs n ws) (more b a) ∙ programs_shift b (a + 2) ws)
  where
    more : (b a : ℕ) → b + a + 2 ≡ b + (a + 2)
    more b a = omega arith

pub copies_shift : (b : ℕ) (u : Bytes) (at : ℕ) (ds es : List Descriptor) → copies b u at ds es ≡ shifted b (copies 0 u at ds es)
unfolding copies
copies_shift b u at [] es = refl
copies_shift b u at (d ∷ ds) [] = refl
copies_shift b u at (d ∷ ds) (e ∷ es) = go (is_kept d) (copies_shift b u (at + 8) ds es)
  where
    ws : Bytes
    ws = e.flags ∷ e.offset ∷ e.len ∷ e.tag ∷ []

    vs : Bytes
    vs = words (take (size d) (drop d.offset u))

    go : (k : Bool) → copies b u (at + 8) ds es ≡ shifted b (copies 0 u (at + 8) ds es)
        → cond k (programs (b + at) ws ++ (programs (b + e.offset) vs ++ copies b u (at + 8) ds es)) (copies b u (at + 8) ds es)
        ≡ shifted b (cond k (programs (0 + at) ws ++ (programs (0 + e.offset) vs ++ copies 0 u (at + 8) ds es)) (copies 0 u (at + 8) ds es))
    go true ih =
        (λ i. one at ws i ++ (one e.offset vs i ++ ih i))
        ∙ sym (shifted_append b (programs (0 + at) ws) (programs (0 + e.offset) vs ++ copies 0 u (at + 8) ds es)
        ∙ ap (λ (l : List Step). shifted b (programs (0 + at) ws) ++ l) (shifted_append b (programs (0 + e.offset) vs) (copies 0 u (at + 8) ds es)))
      where
        one : (a : ℕ) (xs : Bytes) → programs (b + a) xs ≡ shifted b (programs (0 + a) xs)
        one a xs = programs_shift b a xs ∙ ap (λ (n : ℕ). shifted b (programs n xs)) (sym (zero-add a))
    go false ih = ih

-- a unit that has begun to receive L's copy
pub record Begun (L : ℕ) (c r : Bytes) : Type 0 where
  pub part : Receiving c r
  pub name : word r 0 ≡ L
  pub mark : word r 2 ≡ 0xFFFF

pub begun_step : (L : ℕ) (t r : Bytes) (C1 : Bytes) (v : ℕ) (C2 : Bytes) → le L (le 0xFFFF t) ≡ C1 ++ le v C2 → Even C1 → v < 65536 → Begun L (le L (le 0xFFFF t)) r
    → (w : Word r C1 v C2) → Begun L (le L (le 0xFFFF t)) (made (program (length C1) v) r)
unfolding word
begun_step L t r C1 v C2 q ev h k w =
    record {
      part = receive (le L (le 0xFFFF t)) r C1 v C2 q ev h k.part;
      name = ap (λ (x : Bytes). word x 0) made_is ∙ names C1 w.R1 w.len ev q (sym (ap (λ (x : Bytes). word x 0) w.whole) ∙ k.name);
      mark = ap (λ (x : Bytes). word x 2) made_is ∙ marks C1 w.R1 w.len ev q (sym (ap (λ (x : Bytes). word x 2) w.whole) ∙ k.mark);
    }
  where
    made_is : made (program (length C1) v) r ≡ w.R1 ++ le v w.R2
    made_is = word_laid r C1 v C2 h w

    names : (A B : Bytes) → length B ≡ length A → Even A → le L (le 0xFFFF t) ≡ A ++ le v C2 → word (B ++ le w.w w.R2) 0 ≡ L → word (B ++ le v w.R2) 0 ≡ L
    names [] [] l e p m = sym (ap (λ (x : Bytes). word x 0) p) ∙ two_bytes L
    names [] (y ∷ B) l e p m = absurd (let z : ⊥ = omega arith in z)
    names (x ∷ []) B l e p m = absurd e
    names (x ∷ (y ∷ A)) [] l e p m = absurd (let z : ⊥ = omega arith in z)
    names (x ∷ (y ∷ A)) (a ∷ []) l e p m = absurd (let z : ⊥ = omega arith in z)
    names (x ∷ (y ∷ A)) (a ∷ (b ∷ B)) l e p m = m

    marks : (A B : Bytes) → length B ≡ length A → Even A → le L (le 0xFFFF t) ≡ A ++ le v C2 → word (B ++ le w.w w.R2) 2 ≡ 0xFFFF → word (B ++ le v w.R2) 2 ≡ 0xFFFF
    marks [] [] l e p m = m
    marks [] (y ∷ B) l e p m = absurd (let z : ⊥ = omega arith in z)
    marks (x ∷ []) B l e p m = absurd e
    marks (x ∷ (y ∷ A)) [] l e p m = absurd (let z : ⊥ = omega arith in z)
    marks (x ∷ (y ∷ A)) (a ∷ []) l e p m = absurd (let z : ⊥ = omega arith in z)
    marks (x ∷ (y ∷ A)) (a ∷ (b ∷ B)) l e p m = deep A B (omega arith) e (ap (λ (z : Bytes). drop 2 z) p) m
      where
        deep : (A B : Bytes) → length B ≡ length A → Even A → le 0xFFFF t ≡ A ++ le v C2 → word (B ++ le w.w w.R2) 0 ≡ 0xFFFF → word (B ++ le v w.R2) 0 ≡ 0xFFFF
        deep [] [] l e p m = sym (ap (λ (x : Bytes). word x 0) p)
        deep [] (y ∷ B) l e p m = absurd (let z : ⊥ = omega arith in z)
        deep (x ∷ []) B l e p m = absurd e
        deep (x ∷ (y ∷ A)) [] l e p m = absurd (let z : ⊥ = omega arith in z)
        deep (x ∷ (y ∷ A)) (a ∷ []) l e p m = absurd (let z : ⊥ = omega arith in z)
        deep (x ∷ (y ∷ A)) (a ∷ (b ∷ B)) l e p m = m

-- an image whose left-over unit, with the bytes r, receives L's copy
pub record Receives (g : Geometry) (ps : List LaidHome) (sp L : ℕ) (c r : Bytes) (s : Bytes) : Type 0 where
  pub us : List Bytes
  pub image : s ≡ join us
  pub stands : Stands g us ps sp
  pub left : get_or us sp [] ≡ r
  pub begun : Begun L c r

module _ (g : Geometry) (ps : List LaidHome) (sp L : ℕ) (t : Bytes) where
  pub receives_mountable : all is_up ps ≡ true → is_quiet (counts (all_entries g 0 ps)) ≡ true → L < length ps → copy_of g L (laid L (get_or ps L no_laid_home)) ≡ le L (le 0xFFFF t)
      → (r s : Bytes) → Receives g ps sp L (le L (le 0xFFFF t)) r s → Mountable g s
  receives_mountable up q l is r s k =
      subst (λ (x : Bytes). Mountable g x) (sym k.image)
      (mountable_receiving g k.us ps sp k.stands q L l (ap (λ (x : Bytes). word x 0) k.left ∙ k.begun.name) up (ap (λ (x : Bytes). word x 2) k.left ∙ k.begun.mark)
      (ap₂ is_within k.left is ∙ k.begun.part.part))

  -- one word of the copy
  pub receives_step : (r s : Bytes) → Receives g ps sp L (le L (le 0xFFFF t)) r s → (C1 : Bytes) (v : ℕ) (C2 : Bytes) (a : ℕ) → le L (le 0xFFFF t) ≡ C1 ++ le v C2 → Even C1 → length C1 ≡ a → v < 65536
      → Receives g ps sp L (le L (le 0xFFFF t)) (made (program a v) r) (made (program (sp * g.size + a) v) s)
  receives_step r s k C1 v C2 a p ev e h =
      record {
        us = set k.us sp (made (program a v) r);
        image =
            ap₂ (λ (b : ℕ) (x : Bytes). made (program (sp * g.size + b) v) x) (sym (w.len ∙ e)) k.image
            ∙ program_unit g k.us sp w.R1 w.w v w.R2 st.sized st.spare (k.left ∙ w.whole)
            ∙ ap (λ (x : Bytes). join (set k.us sp x)) (sym r'_is ∙ ap (λ (b : ℕ). made (program b v) r) e);
        stands =
            subst (λ (b : ℕ). Stands g (set k.us sp (made (program b v) r)) ps sp) e
            (spared g k.us ps sp st (made (program (length C1) v) r) (begun.part.len ∙ sym k.begun.part.len ∙ sym (ap length k.left) ∙ sized_get g k.us sp st.sized st.spare) (ap (λ (x : ℕ). eqb x 0xFFFE) begun.mark) (λ b. ap (λ (x : ℕ). eqb x 0xFFFC) begun.mark));
        left = get_or-set_same k.us sp (made (program a v) r) [] st.spare;
        begun = subst (λ (b : ℕ). Begun L (le L (le 0xFFFF t)) (made (program b v) r)) e begun;
      }
    where
      st : Stands g k.us ps sp
      st = k.stands

      w : Word r C1 v C2
      w = within_at C1 v C2 r ev (ap (is_within r) (sym p) ∙ k.begun.part.part) (k.begun.part.len ∙ ap length p)

      begun : Begun L (le L (le 0xFFFF t)) (made (program (length C1) v) r)
      begun = begun_step L t r C1 v C2 p ev h k.begun w

      r'_is : made (program (length C1) v) r ≡ w.R1 ++ le (bit_and w.w v) w.R2
      r'_is = ap₂ (λ (b : ℕ) (x : Bytes). made (program b v) x) (sym w.len) w.whole ∙ programmed w.R1 w.w v w.R2

  abbrev pub SomeReceives : Bytes → Type 0
  SomeReceives s = (r : Bytes) × Receives g ps sp L (le L (le 0xFFFF t)) r s

  pub along_copy : (xs : List Step) → WritesCopy (le L (le 0xFFFF t)) xs → (r s : Bytes) → Receives g ps sp L (le L (le 0xFFFF t)) r s
      → Along SomeReceives s (shifted (sp * g.size) xs) × Receives g ps sp L (le L (le 0xFFFF t)) (finish xs r) (finish (shifted (sp * g.size) xs) s)
  unfolding finish
  along_copy [] written r s k = ((r, k), k)
  along_copy (program a v ∷ xs) (writing C1 v' C2 a' p ev e h rest) r s k =
      let n = along_copy xs rest (made (program a v) r) (made (program (sp * g.size + a) v) s) (receives_step r s k C1 v C2 a p ev e h) in
      (((r, k), n.0), n.1)
  along_copy (erase _ _ ∷ xs) w r s k = elim w [ ]
