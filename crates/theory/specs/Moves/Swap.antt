-- The copy is live: it is L's home, and the old home is left over.
use Rattle.std.specs.Prelude.{false, true, List, [], ◌++◌, ◌∷◌, ◌≢◌, ◌≡◌, refl, set}
use Rattle.std.proofs.Common.{◌∙◌, sym, add-zero, zero-add, length-append, length-set, get_or-set_other, get_or-set_same}
use Rattle.std.proofs.Math.Path.{ap, subst}
use Prim.Native.Nat.{◌+◌, ◌<◌, suc, zero, ℕ}
use Rattle.std.proofs.Math.Decide.{ℕ_discrete}
use native.Mathlib.Omega.{arith}
use Rattle.std.proofs.Math.Dec.{eqb}
use Rattle.std.proofs.Math.ListN.{get_or, length}
use Rattle.rules.specs.Flash.{Bytes, word}
use Rattle.rules.specs.Lists.{all}
use Rattle.rules.specs.Unit.{live}
use Rattle.rules.specs.declared.Geometry.{Geometry}
use Rattle.laws.specs.Words.{two_bytes}
use Rattle.theory.specs.Base.Facts.{all_uncons, length_mid, true_false}
use Rattle.theory.specs.Images.Units.{sized_set}
use Rattle.theory.specs.Images.Head.{headed}
use Rattle.theory.specs.Images.Layout.{Good, length_layout}
use Rattle.theory.specs.Images.Model.{HomesStand, Is, LaidHome, Stands, is_up, laid, name_is, name_of, no_laid_home, state_word}
use Rattle.theory.specs.Images.Turn.{homes_front, homes_join, homes_mid}
use Rattle.theory.specs.Moves.Moving.{get_mid}
use Rattle.theory.specs.Storing.Stores.{p}

get_other : (hs bs : List LaidHome) (p q : LaidHome) (n : ℕ) → n ≢ length hs → get_or (hs ++ q ∷ bs) n no_laid_home ≡ get_or (hs ++ p ∷ bs) n no_laid_home
get_other [] bs p q zero h = absurd (h refl)
get_other [] bs p q (suc n) h = refl
get_other (x ∷ hs) bs p q zero h = refl
get_other (x ∷ hs) bs p q (suc n) h = get_other hs bs p q n (λ (e : n ≡ length hs). h (ap suc e))

module _ (g : Geometry) (us : List Bytes) (hs bs : List LaidHome) (p q : LaidHome) (sp : ℕ) (st : Stands g us (hs ++ p ∷ bs) sp) (here : q.phys ≡ sp) (live' : q.up ≡ true)
    (good : Good g q.array q.gap q.rest) (head : headed q.head ≡ true) (old : Bytes) (len : length old ≡ g.size) (off : eqb (word old 2) live ≡ false) (ups : (all is_up hs ≡ true) × (all is_up bs ≡ true)) where
  abbrev new : Bytes
  new = laid (0 + length hs) q

  abbrev vs : List Bytes
  vs = set (set us sp (laid (0 + length hs) q)) p.phys old

  mid : Is g us sp (0 + length hs) p × HomesStand g us sp (suc (0 + length hs)) bs
  mid = homes_mid g us sp 0 hs bs p st.homes

  lens : length vs ≡ length us
  lens = length-set (set us sp new) p.phys old ∙ length-set us sp new

  at_new : get_or vs sp [] ≡ laid (0 + length hs) q
  at_new = get_or-set_other (set us sp new) p.phys sp old [] (λ (e : sp ≡ p.phys). mid.0.away (sym e)) ∙ get_or-set_same us sp new [] st.spare

  pub at_old : get_or vs p.phys [] ≡ old
  at_old = get_or-set_same (set us sp new) p.phys old [] (subst (λ (m : ℕ). p.phys < m) (sym (length-set us sp new)) mid.0.there)

  at_other : (j : ℕ) → j ≢ sp → j ≢ p.phys → get_or vs j [] ≡ get_or us j []
  at_other j a b = get_or-set_other (set us sp new) p.phys j old [] b ∙ get_or-set_other us sp j new [] a

  frame : (L : ℕ) (xs : List LaidHome) → all is_up xs ≡ true → HomesStand g us sp L xs → ((i : ℕ) → i < length xs → 0 + length hs ≢ L + i) → HomesStand g vs p.phys L xs
  frame L [] u h n = tt
  frame L (x ∷ xs) u h n = (
    record {
      there = subst (λ (m : ℕ). x.phys < m) (sym lens) h.0.there;
      bytes = at_other x.phys h.0.away away' ∙ h.0.bytes;
      good = h.0.good;
      headed = h.0.headed;
      away = away';
      mark = λ e. true_false x.up (all_uncons is_up x xs u).0 e;
    },
    frame (suc L) xs (all_uncons is_up x xs u).1 h.1 (λ i l e. n (suc i) (omega arith) (e ∙ more i)),
  )
    where
      more : (i : ℕ) → suc L + i ≡ L + suc i
      more i = omega arith

      away' : x.phys ≢ p.phys
      away' e = n 0 (omega arith) (sym (name_is g us sp (0 + length hs) p mid.0) ∙ ap (name_of us) (sym e) ∙ name_is g us sp L x h.0 ∙ sym (add-zero L))

  pub swapped : Stands g (set (set us sp (laid (0 + length hs) q)) p.phys old) (hs ++ q ∷ bs) p.phys
  unfolding word
  swapped =
      record {
        shape = st.shape;
        units = lens ∙ st.units;
        sized = sized_set g (set us sp new) p.phys old (sized_set g us sp new st.sized (length_layout g (0 + length hs) (state_word q.up) q.head q.array q.gap q.rest good)) len;
        many = lens ∙ st.many ∙ ap suc (sym (length_mid hs p q bs));
        homes =
            homes_join g vs p.phys 0 hs bs q
            (frame 0 hs ups.0 (homes_front g us sp 0 hs bs p st.homes) (λ i l e. clash i e l))
            (record {
              there = subst (λ (m : ℕ). q.phys < m) (sym lens) (subst (λ (x : ℕ). x < length us) (sym here) st.spare);
              bytes = ap (λ (x : ℕ). get_or vs x []) here ∙ at_new;
              good = good;
              headed = head;
              away = λ (e : q.phys ≡ p.phys). mid.0.away (sym e ∙ here);
              mark = λ e. true_false q.up live' e;
            })
            (frame (suc (0 + length hs)) bs ups.1 mid.1 (λ i l e. clash' i e));
        spare = subst (λ (m : ℕ). p.phys < m) (sym lens) mid.0.there;
        not_live = ap (λ (x : Bytes). eqb (word x 2) live) at_old ∙ off;
        named = λ j l n. owner j (subst (λ (m : ℕ). j < m) lens l) n (ℕ_discrete j sp);
      }
    where
      clash : (i : ℕ) → 0 + length hs ≡ 0 + i → i < length hs → ⊥
      clash i e l = omega arith

      clash' : (i : ℕ) → 0 + length hs ≡ suc (0 + length hs) + i → ⊥
      clash' i e = omega arith

      owner : (j : ℕ) → j < length us → j ≢ p.phys → Dec (j ≡ sp) → (name_of vs j < length (hs ++ q ∷ bs)) × ((get_or (hs ++ q ∷ bs) (name_of vs j) no_laid_home).phys ≡ j)
      owner j l n (yes e) =
          (omega (arith, name, length-append hs (q ∷ bs)), ap (λ (x : ℕ). (get_or (hs ++ q ∷ bs) x no_laid_home).phys) (name ∙ zero-add (length hs)) ∙ ap (λ (x : LaidHome). x.phys) (get_mid hs bs q no_laid_home) ∙ here ∙ sym e)
        where
          name : name_of vs j ≡ 0 + length hs
          name = ap (name_of vs) e ∙ ap (λ (x : Bytes). word x 0) at_new ∙ two_bytes (0 + length hs)
      owner j l n (no m) =
          let o = st.named j l m in (
            subst (λ (x : ℕ). x < length (hs ++ q ∷ bs)) (sym name) (subst (λ (x : ℕ). name_of us j < x) (sym (length_mid hs p q bs)) o.0),
            ap (λ (x : ℕ). (get_or (hs ++ q ∷ bs) x no_laid_home).phys) name
                ∙ ap (λ (x : LaidHome). x.phys) (get_other hs bs p q (name_of us j) (λ (e : name_of us j ≡ length hs). n (sym o.1 ∙ ap (λ (x : ℕ). (get_or (hs ++ p ∷ bs) x no_laid_home).phys) e ∙ ap (λ (x : LaidHome). x.phys) (get_mid hs bs p no_laid_home))))
                ∙ o.1,
          )
        where
          name : name_of vs j ≡ name_of us j
          name = ap (λ (x : Bytes). word x 0) (at_other j m n)
