-- Mount's tidying ends, by one step less with each step, and keeps what it would show.
use Rattle.std.specs.Prelude.{List, [], ◌++◌, ◌∷◌, ◌≡◌, refl, ◌+◌, suc, ℕ, eqb, length}
use Rattle.std.proofs.Common.{◌∙◌, ap, sym, arith, length-append}
use Rattle.rules.specs.Flash.{Step}
use Rattle.rules.specs.Jobs.{become, turns}
use Rattle.rules.specs.Settled.{Entry, pairs}
use Rattle.theory.specs.Base.Facts.{is_nil, or_right}
use Rattle.theory.specs.Tidying.Flat.{Next}
use Rattle.theory.specs.Tidying.Sorted.{Orderly, OrderlyE, Quiet, SameE, Sorted, committing, end_of, sorted, tidy_of, tidying, unfinished}
use Rattle.theory.specs.Tidying.Mending.{next_un}
use Rattle.theory.specs.Tidying.CleanUp.{next_co}

pub next : (es : List Entry) → Orderly (sorted es) → Next OrderlyE SameE tidying es
next es (unfinished u) = next_un es u
next es (committing c) = next_co es c

-- what is left when nothing is left to do: quiet, with no transaction open and nothing pending
pub record Tidied (l : Sorted) : Type 0 where
  pub quiet : Quiet l
  pub opened : l.opened ≡ []
  pub pending : l.pending ≡ []

pub become_nil : (f : ℕ) (es : List Entry) → length (become f es) ≡ length es
unfolding become
become_nil f [] = refl
become_nil f (e ∷ es) = ap suc (become_nil f es)

pub tidied : (l : Sorted) → Orderly l → tidy_of l ≡ [] → Tidied l
unfolding pairs become
tidied l (unfinished u) h =
    record {
      quiet = record {
        torn = nil l.torn (omega (arith, sizes, counted l.torn 0));
        allocated = nil l.allocated (omega (arith, sizes));
        committed = u.committed;
        opened = u.opened;
        current = u.current;
        data' = u.data';
        pending = ap pairs none;
        beside = or_right (eqb (length l.opened) 1) (ap (λ (x : List Entry). eqb (length x) 0) none);
      };
      opened = nil l.opened (omega (arith, sizes));
      pending = none;
    }
  where
    nil : (es : List Entry) → length es ≡ 0 → es ≡ []
    nil es e = is_nil es e

    counted : (es : List Entry) (f : ℕ) → length (become f es) ≡ length es
    counted es f = become_nil f es

    rest : List Step
    rest = become 0xFFF0 l.opened ++ become 0xFFF0 l.pending

    shape : (become 0 l.torn ++ become 0xFFF0 l.allocated) ++ (become 0xFFF0 l.opened ++ become 0xFFF0 l.pending) ≡ []
    shape = sym (ap (λ (d : List Entry). (become 0 l.torn ++ become 0xFFF0 l.allocated) ++ end_of d l.opened l.pending l.current) u.committed) ∙ h

    sizes : length l.torn + length l.allocated + (length l.opened + length l.pending) ≡ 0
    sizes = omega (
      arith,
      ap length shape,
      length-append (become 0 l.torn ++ become 0xFFF0 l.allocated) rest,
      length-append (become 0 l.torn) (become 0xFFF0 l.allocated),
      length-append (become 0xFFF0 l.opened) (become 0xFFF0 l.pending),
      become_nil 0 l.torn,
      become_nil 0xFFF0 l.allocated,
      become_nil 0xFFF0 l.opened,
      become_nil 0xFFF0 l.pending,
    )

    none : l.pending ≡ []
    none = is_nil l.pending (omega (arith, sizes))
tidied l (committing c) h = go l.committed refl
  where
    go : (d : List Entry) → l.committed ≡ d → Tidied l
    go [] q = absurd (let w : ⊥ = omega (arith, ap length q, c.committed) in w)
    go (t ∷ ts) q = absurd (let w : ⊥ = omega (arith, ap length shape, length-append (become 0 l.torn ++ become 0xFFF0 l.allocated) end, length-append (turns l.current l.pending) (become 0xFFF0 (t ∷ ts))) in w)
      where
        end : List Step
        end = turns l.current l.pending ++ become 0xFFF0 (t ∷ ts)

        shape : (become 0 l.torn ++ become 0xFFF0 l.allocated) ++ (turns l.current l.pending ++ become 0xFFF0 (t ∷ ts)) ≡ []
        shape = sym (ap (λ (d : List Entry). (become 0 l.torn ++ become 0xFFF0 l.allocated) ++ end_of d l.opened l.pending l.current) q) ∙ h
