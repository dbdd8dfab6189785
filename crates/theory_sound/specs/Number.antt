-- A unit of an image by its place, and a home's number and state.
use Rattle.std.specs.Prelude.{Bool, ◌||◌, false, true, List, [], ◌∷◌, ◌≡◌, refl, ◌*◌, ◌+◌, ◌<◌, suc, zero, ℕ, eqb, drop, get_or, take}
use Rattle.std.proofs.Common.{◌∙◌, ap, sym, arith, drop-drop}
use Rattle.rules.specs.Flash.{Bytes}
use Rattle.rules.specs.Lists.{filter}
use Rattle.rules.specs.Settled.{Physical, homes_for, is_in}
use Rattle.rules.specs.Unit.{live, retired}
use Rattle.laws.specs.Lists.{Every, every_map, filter_passes}
use Rattle.theory.specs.Base.Facts.{and_l, and_r, eq_of, or_left, or_right, true_false}
use Rattle.theory.specs.Images.Model.{state_word}
use Rattle.theory.specs.Mounting.Formatted.{chunks}

pub chunks_get : (S k : ℕ) (s : Bytes) (j : ℕ) → j < k → get_or (chunks S k s) j [] ≡ take S (drop (j * S) s)
chunks_get S zero s j l = absurd (let z : ⊥ = omega arith in z)
chunks_get S (suc k) s zero l = ap (λ (n : ℕ). take S (drop n s)) none
  where
    none : 0 ≡ 0 * S
    none = omega arith
chunks_get S (suc k) s (suc j) l = chunks_get S k (drop S s) j (omega arith) ∙ ap (take S) (drop-drop (j * S) S s ∙ ap (λ (n : ℕ). drop n s) more)
  where
    more : S + j * S ≡ suc j * S
    more = omega arith

-- a home is live or retired, with its number
pub homes_pass : (ps : List Physical) (L : ℕ) → Every (λ (p : Physical). is_in L live p || is_in L retired p ≡ true) (homes_for ps L)
unfolding homes_for
homes_pass ps L = go (filter (is_in L live) ps) (filter_passes (is_in L live) ps)
  where
    go : (qs : List Physical) → Every (λ (p : Physical). is_in L live p ≡ true) qs → Every (λ (p : Physical). is_in L live p || is_in L retired p ≡ true) (elim qs as (λ j. List Physical) [ [] ↦ filter (is_in L retired) ps | q ∷ qs ↦ q ∷ qs ])
    go [] h = every_map (λ (p : Physical). is_in L retired p ≡ true) (λ (p : Physical). is_in L live p || is_in L retired p ≡ true) (λ p e. or_right (is_in L live p) e) (filter (is_in L retired) ps) (filter_passes (is_in L retired) ps)
    go (q ∷ qs) h = every_map (λ (p : Physical). is_in L live p ≡ true) (λ (p : Physical). is_in L live p || is_in L retired p ≡ true) (λ p e. or_left (is_in L retired p) e) (q ∷ qs) h

pub in_state : (L : ℕ) (p : Physical) → is_in L live p || is_in L retired p ≡ true → (p.logical ≡ L) × (p.state ≡ state_word (eqb p.state live))
unfolding is_in
in_state L p h = go (is_in L live p) (is_in L retired p) refl refl h
  where
    go : (a b : Bool) → is_in L live p ≡ a → is_in L retired p ≡ b → a || b ≡ true → (p.logical ≡ L) × (p.state ≡ state_word (eqb p.state live))
    go true b e f h = (
      eq_of p.logical L (and_l (eqb p.logical L) (eqb p.state live) e),
      (let z : p.state ≡ live = eq_of p.state live (and_r (eqb p.logical L) (eqb p.state live) e) in z ∙ ap (λ (x : ℕ). state_word (eqb x live)) (sym z)),
    )
    go false true e f h = (
      eq_of p.logical L (and_l (eqb p.logical L) (eqb p.state retired) f),
      (let z : p.state ≡ retired = eq_of p.state retired (and_r (eqb p.logical L) (eqb p.state retired) f) in z ∙ ap (λ (x : ℕ). state_word (eqb x live)) (sym z)),
    )
    go false false e f h = true_false false h refl
