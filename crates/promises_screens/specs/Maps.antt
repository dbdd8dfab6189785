-- Bodies as changes of a plain map: one behind the other, and neighbours exchanged.
use Rattle.std.specs.Prelude.{Bool, cond, false, true, List, [], ◌++◌, ◌∷◌, ◌≢◌, ◌≡◌, refl, ℕ, eqb}
use Rattle.std.proofs.Math.Option.{Option, none, some}
use Rattle.std.proofs.Common.{◌∙◌, ap, sym}
use Rattle.rules.specs.Flash.{Bytes}
use Rattle.rules.specs.Histories.{Changes, Files, changed, laid_down, unless}
use Rattle.theory.specs.Base.Facts.{eq_of}
use Rattle.promises_screens.specs.Words.{Alike, Change, alike, last, later, left_out}

pub later_none : (x : Option (Option Bytes)) → later x none ≡ x
unfolding later
later_none none = refl
later_none (some y) = refl

later_later : (x y z : Option (Option Bytes)) → later (later x y) z ≡ later x (later y z)
unfolding later
later_later none y z = refl
later_later (some x) y z = refl

-- a change made over what there was
pub last_over : (c : Change) (b : List Change) (o : Changes) (f : ℕ) → later (last b f) (changed c.file c.to o f) ≡ later (last (c ∷ b) f) (o f)
unfolding last changed later
last_over c b o f = ap (later (last b f)) (go (eqb f c.file)) ∙ sym (later_later (last b f) (cond (eqb f c.file) (some c.to) none) (o f))
  where
    go : (d : Bool) → cond d (some c.to) (o f) ≡ later (cond d (some c.to) none) (o f)
    go true = refl
    go false = refl

pub last_append : (b c : List Change) (f : ℕ) → last (b ++ c) f ≡ later (last c f) (last b f)
unfolding last
last_append [] c f = sym (later_none (last c f))
last_append (d ∷ b) c f =
    ap (λ (x : Option (Option Bytes)). later x (cond (eqb f d.file) (some d.to) none)) (last_append b c f)
    ∙ later_later (last c f) (last b f) (cond (eqb f d.file) (some d.to) none)

pub unless_later : (p q : Option (Option Bytes)) (x : Option Bytes) → unless (later p q) x ≡ unless p (unless q x)
unfolding later unless
unless_later none q x = refl
unless_later (some y) q x = refl

-- two transactions laid down one after the other are one with the later changes
pub laid_twice : (b c : List Change) (m : Files) (f : ℕ) → laid_down (last c) (laid_down (last b) m) f ≡ laid_down (last (b ++ c)) m f
unfolding laid_down
laid_twice b c m f = sym (ap (λ (x : Option (Option Bytes)). unless x (m f)) (last_append b c f) ∙ unless_later (last c f) (last b f) (m f))

-- two neighbours of different files exchanged
exchanged : (c d : Change) → c.file ≢ d.file → (b : List Change) (f : ℕ) → last (c ∷ d ∷ b) f ≡ last (d ∷ c ∷ b) f
unfolding last later
exchanged c d n b f =
    later_later (last b f) (cond (eqb f d.file) (some d.to) none) (cond (eqb f c.file) (some c.to) none)
    ∙ ap (later (last b f)) (go (eqb f c.file) (eqb f d.file) refl refl)
    ∙ sym (later_later (last b f) (cond (eqb f c.file) (some c.to) none) (cond (eqb f d.file) (some d.to) none))
  where
    go : (x y : Bool) → eqb f c.file ≡ x → eqb f d.file ≡ y → later (cond y (some d.to) none) (cond x (some c.to) none) ≡ later (cond x (some c.to) none) (cond y (some d.to) none)
    go true true p q = absurd (n (sym (eq_of f c.file p) ∙ eq_of f d.file q))
    go true false p q = refl
    go false true p q = refl
    go false false p q = refl

pub last_exchanged : (a : List Change) (c d : Change) → c.file ≢ d.file → (b : List Change) (f : ℕ) → last (a ++ c ∷ d ∷ b) f ≡ last (a ++ d ∷ c ∷ b) f
last_exchanged a c d n b f = last_append a (c ∷ d ∷ b) f ∙ ap (λ (x : Option (Option Bytes)). later x (last a f)) (exchanged c d n b f) ∙ sym (last_append a (d ∷ c ∷ b) f)

-- the same last change, or a deletion that is left out: the same map
pub laid_alike : (x : Option Bytes) (p q : Option (Option Bytes)) → Alike x p q → unless p x ≡ unless q x
unfolding unless
laid_alike x p q (alike e) = ap (λ (y : Option (Option Bytes)). unless y x) e
laid_alike x p q (left_out a e h) = ap (λ (y : Option (Option Bytes)). unless y x) e ∙ sym a ∙ sym (ap (λ (y : Option (Option Bytes)). unless y x) h)
