-- Places moved along with a unit, and entries that follow it.
use Rattle.std.specs.Prelude.{Bool, ◌&&◌, cond, false, true, List, [], ◌∷◌, ◌≡◌, refl, ◌%◌, ◌+◌, ◌-◌, ◌<◌, ◌≤◌, ℕ, eqb, leb, ltb}
use Rattle.std.proofs.Common.{ap, ap₂, arith}
use Rattle.rules.specs.Unit.{file_of}
use Rattle.rules.specs.Flash.{Step, program}
use Rattle.rules.specs.Jobs.{become}
use Rattle.rules.specs.Lists.{filter}
use Rattle.rules.specs.Settled.{Entry, of_file}
use Rattle.theory.specs.Base.Facts.{both, le_of, leb_of, lt_of, ltb_of, true_false}
use Rattle.theory.specs.Moves.Alike.{SameButPlace}

-- A place of the image once the unit of `size` bytes at `from` stands at `to`: moved along where it lies in that unit.
unfoldable pub rebased : ℕ → ℕ → ℕ → ℕ → ℕ
rebased from to size a = cond (leb from a && ltb a (from + size)) (to + (a - from)) a

pub rebased_in : (from to size a : ℕ) → from ≤ a → a < from + size → rebased from to size a ≡ to + (a - from)
unfolding rebased
rebased_in from to size a l m = ap (λ (b : Bool). cond b (to + (a - from)) a) (both (leb_of from a l) (ltb_of a (from + size) m))

pub rebased_below : (from to size a : ℕ) → a < from → rebased from to size a ≡ a
unfolding rebased
rebased_below from to size a l = go (leb from a) refl
  where
    go : (b : Bool) → leb from a ≡ b → cond (b && ltb a (from + size)) (to + (a - from)) a ≡ a
    go true e = absurd (let w : ⊥ = omega (arith, le_of from a e) in w)
    go false e = refl

pub rebased_above : (from to size a : ℕ) → from + size ≤ a → rebased from to size a ≡ a
unfolding rebased
rebased_above from to size a l = go (leb from a) (ltb a (from + size)) refl
  where
    go : (c b : Bool) → ltb a (from + size) ≡ b → cond (c && b) (to + (a - from)) a ≡ a
    go c true e = absurd (let w : ⊥ = omega (arith, lt_of a (from + size) e) in w)
    go true false e = refl
    go false false e = refl

-- each of them
unfoldable pub rebased_all : (ℕ → ℕ) → List ℕ → List ℕ
rebased_all f [] = []
rebased_all f (a ∷ l) = f a ∷ rebased_all f l

-- ---- what is read of a list of entries
unfoldable pub places_of : List Entry → List ℕ
places_of [] = []
places_of (e ∷ es) = e.place ∷ places_of es

-- One flags value programmed at each place.
unfoldable pub become_at : ℕ → List ℕ → List Step
become_at f [] = []
become_at f (a ∷ l) = program a f ∷ become_at f l

pub become_at_lem : (f : ℕ) (es : List Entry) → become f es ≡ become_at f (places_of es)
unfolding become_at places_of become
become_at_lem f [] = refl
become_at_lem f (e ∷ es) = ap {B = List Step} (λ (l : List Step). program e.place f ∷ l) (become_at_lem f es)

-- ---- entries that follow a change of places f: alike, and each where f takes the other
pub record Follows (f : ℕ → ℕ) (d e : Entry) : Type 0 where
  pub alike : SameButPlace d e
  pub place : d.place ≡ f e.place

pub data AllFollow (f : ℕ → ℕ) : List Entry → List Entry → Type 0 where
  none_follow : AllFollow f [] []
  next_follow : {d e : Entry} {ds es : List Entry} → Follows f d e → AllFollow f ds es → AllFollow f (d ∷ ds) (e ∷ es)

pub follow_places : {f : ℕ → ℕ} {a b : List Entry} → AllFollow f a b → places_of a ≡ rebased_all f (places_of b)
unfolding places_of rebased_all
follow_places none_follow = refl
follow_places (next_follow h t) = ap₂ {C = List ℕ} (λ (x : ℕ) (l : List ℕ). x ∷ l) h.place (follow_places t)

-- those of one file follow too
pub follow_file : {f : ℕ → ℕ} {a b : List Entry} → AllFollow f a b → (n : ℕ) → AllFollow f (filter (of_file n) a) (filter (of_file n) b)
unfolding file_of filter of_file
follow_file none_follow n = none_follow
follow_file {f} (next_follow {d = d} {e = e} {ds = ds} {es = es} h t) n = go (of_file n d) (of_file n e) (ap (λ (x : ℕ). eqb (x % 256) n) h.alike.tag) (follow_file t n)
  where
    go : (b c : Bool) → b ≡ c → AllFollow f (filter (of_file n) ds) (filter (of_file n) es) → AllFollow f (cond b (d ∷ filter (of_file n) ds) (filter (of_file n) ds)) (cond c (e ∷ filter (of_file n) es) (filter (of_file n) es))
    go true true q r = next_follow h r
    go false false q r = r
    go true false q r = true_false true refl q
    go false true q r = true_false false q refl
