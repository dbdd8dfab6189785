-- Giving is the calls that it makes: the image they leave, and a history that goes on by them.
use Rattle.std.specs.Prelude.{◌≡◌, Bool, List, [], ◌∷◌, ℕ, ◌+◌, ◌-◌, eqb}
use Rattle.std.proofs.Math.Path.{refl}
use Rattle.std.proofs.Common.{sym, subst}
use Rattle.std.proofs.Math.Bool.{true, false}
use Rattle.rules.specs.Flash.{Bytes}
use Rattle.rules.specs.Answers.{given, number}
use Rattle.rules.specs.Calls.{Call, begin, outcome}
use Rattle.rules.specs.Histories.{Plain, Reached, as_made, called, is_format, takes_bytes}
use Rattle.rules.specs.declared.Geometry.{Geometry}
use Rattle.rules.specs.declared.Rule.TheVariants.{Tightest}
use Rattle.pass_rules.specs.Give.{Looked, Went, broken, ends, finds, give, give_look, gives_at, goes_on, midway, noting, parts, refuses, starts}
use Rattle.promises_passes.specs.Words.{MayLeaveAll, and_then, by_last, follow_all, image_after, nothing}
use Rattle.promises_passes.specs.Grammar.{pass_bytes, register_bytes}

-- Calls other than format, with contents that are bytes.
pub data HistoryCalls : List Call → Type 0 where
  end : HistoryCalls []
  and : {c : Call} {cs : List Call} → is_format c ≡ false → takes_bytes c ≡ true → HistoryCalls cs → HistoryCalls (c ∷ cs)

-- Such calls for any allowance.
pub data Parts : List (ℕ → Call) → Type 0 where
  last : Parts []
  part : {c : ℕ → Call} {cs : List (ℕ → Call)} → ((k : ℕ) → is_format (c k) ≡ false) → ((k : ℕ) → takes_bytes (c k) ≡ true) → Parts cs → Parts (c ∷ cs)

pub pass_parts : (n a b : ℕ) → Parts (parts n a b)
unfolding parts is_format takes_bytes
pass_parts n a b = part (λ k. refl) (λ k. pass_bytes n a b) (part (λ k. refl) (λ k. register_bytes (n + 1)) (part (λ k. refl) (λ k. refl) last))

module _ (g : Geometry) where
  pub reached_all : {cs : List Call} → HistoryCalls cs → {s : Bytes} {m : Plain} → Reached g s m → Reached g (image_after g cs s) (follow_all g cs s m)
  unfolding image_after follow_all
  reached_all end r = r
  reached_all (and {c} p q f) r = reached_all f (called c p q r as_made)

  -- A history goes on from whatever they may leave.
  pub left_reached : {cs : List Call} → HistoryCalls cs → {s u : Bytes} {m : Plain} → Reached g s m → MayLeaveAll g cs s u → Reached g u (follow_all g cs s m)
  unfolding follow_all
  left_reached end r nothing = r
  left_reached (and p q f) r (by_last c l) = called c p q r l
  left_reached (and p q f) r (and_then c l) = left_reached f (called c p q r as_made) l

  -- What a walk leaves is what its calls leave, and they are calls of a history.
  record WalkLeaves (s : Bytes) (w : Went) : Type 0 where
    image : w.image ≡ image_after g w.calls s
    fit : HistoryCalls w.calls

  module _ (k : ℕ) where
    midway_walked : (r j : ℕ) (s : Bytes) → WalkLeaves s (midway g k r j s)
    unfolding midway noting ends image_after is_format takes_bytes
    midway_walked r j s = record { image = refl; fit = and refl refl end }

    broken_walked : (r j : ℕ) (s : Bytes) → WalkLeaves s (broken g k r j s)
    unfolding broken ends image_after
    broken_walked r j s = go (eqb r 1)
      where
        go : (b : Bool) → WalkLeaves s (elim b as (λ j. Went) [ true ↦ ends 1 j s | false ↦ midway g k r j s ])
        go true = record { image = refl; fit = end }
        go false = midway_walked r j s

    noted : (c : Call) (s : Bytes) (w : Went) → is_format c ≡ false → takes_bytes c ≡ true → WalkLeaves (outcome g c s).image w → WalkLeaves s (noting c w)
    unfolding noting image_after
    noted c s w p q h = record { image = h.image; fit = and p q h.fit }

    goes_walked : {cs : List (ℕ → Call)} → Parts cs → (j : ℕ) (s : Bytes) → WalkLeaves s (goes_on g k cs j s)
    unfolding goes_on ends image_after
    goes_walked last j s = record { image = refl; fit = end }
    goes_walked (part {c} {cs} p q f) j s =
        noted (c (k - j)) s _ (p (k - j)) (q (k - j)) (go (eqb (number (outcome g (c (k - j)) s).answer) 0) (goes_walked f (j + (given (outcome g (c (k - j)) s).answer).steps) (outcome g (c (k - j)) s).image))
      where
        go : (b : Bool) → WalkLeaves (outcome g (c (k - j)) s).image (goes_on g k cs (j + (given (outcome g (c (k - j)) s).answer).steps) (outcome g (c (k - j)) s).image)
            → WalkLeaves (outcome g (c (k - j)) s).image (elim b as (λ j. Went) [ true ↦ goes_on g k cs (j + (given (outcome g (c (k - j)) s).answer).steps) (outcome g (c (k - j)) s).image | false ↦ broken g k (number (outcome g (c (k - j)) s).answer) (j + (given (outcome g (c (k - j)) s).answer).steps) (outcome g (c (k - j)) s).image ])
        go true h = h
        go false h = broken_walked (number (outcome g (c (k - j)) s).answer) (j + (given (outcome g (c (k - j)) s).answer).steps) (outcome g (c (k - j)) s).image

    starts_walked : {cs : List (ℕ → Call)} → Parts cs → (s : Bytes) → WalkLeaves s (starts g k cs s)
    unfolding starts ends image_after is_format takes_bytes
    starts_walked {cs} f s = noted (begin Tightest k) s _ refl refl (go (eqb (number (outcome g (begin Tightest k) s).answer) 0))
      where
        go : (b : Bool) → WalkLeaves (outcome g (begin Tightest k) s).image (elim b as (λ j. Went) [
          | true ↦ goes_on g k cs (given (outcome g (begin Tightest k) s).answer).steps (outcome g (begin Tightest k) s).image
          | false ↦ ends (number (outcome g (begin Tightest k) s).answer) (given (outcome g (begin Tightest k) s).answer).steps (outcome g (begin Tightest k) s).image
        ])
        go true = goes_walked f (given (outcome g (begin Tightest k) s).answer).steps (outcome g (begin Tightest k) s).image
        go false = record { image = refl; fit = end }

    give_walked : (a b : ℕ) (s : Bytes) → WalkLeaves s (give g k a b s)
    unfolding give gives_at ends image_after
    give_walked a b s = go (give_look g s a b)
      where
        go : (x : Looked ℕ) → WalkLeaves s (gives_at g k a b x s)
        go (refuses r) = record { image = refl; fit = end }
        go (finds n) = starts_walked (pass_parts n a b) s

    -- A history goes on from whatever a give may leave.
    pub give_left : (a b : ℕ) {s u : Bytes} {m : Plain} → Reached g s m → MayLeaveAll g (give g k a b s).calls s u → Reached g u (follow_all g (give g k a b s).calls s m)
    give_left a b {s} r l = left_reached (give_walked a b s).fit r l

    -- A history goes on by a give.
    pub give_reached : (a b : ℕ) {s : Bytes} {m : Plain} → Reached g s m → Reached g (give g k a b s).image (follow_all g (give g k a b s).calls s m)
    give_reached a b {s} {m} r =
        let w = give_walked a b s in
        subst (λ (x : Bytes). Reached g x (follow_all g (give g k a b s).calls s m)) (sym w.image) (reached_all w.fit r)
