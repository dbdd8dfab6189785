-- Where there is at most one of a kind, an index has the whole list: of a sound image the current ones of each file, the
-- transactions, and those torn or allocated; of a settled one also what is pending of a file.
use Rattle.std.specs.Prelude.{ℕ, ◌≤◌, ◌<◌, ◌≡◌, refl, List, eqb, length, get_or}
use Rattle.std.proofs.Common.{arith, sym, ◌∙◌, ne_eqb, eqb-true}
use Rattle.std.proofs.Math.Path.{ap}
use Rattle.rules.specs.Lists.{all, filter, first}
use Rattle.rules.specs.Flash.{Bytes}
use Rattle.rules.specs.Unit.{stands, is_torn, is_allocated, is_open, is_committed, is_pending_file, is_current_file, is_data}
use Rattle.rules.specs.Settled.{Entry, Survey, survey, pick, select, of_file, pairs, is_current_ok, counts}
use Rattle.rules.specs.Sound.{standing}
use Rattle.rules.specs.Views.{committed_view}
use Rattle.rules.specs.Jobs.{earlier_of}
use Rattle.rules.specs.declared.Geometry.{Geometry}
use Rattle.rules.specs.declared.Standing.TheVariants.{Settled, Neither}
use Rattle.laws.specs.Tests.{and_inv}
use Rattle.laws.specs.Homes.{pairs_few}
use Rattle.unit.specs.Spots.{one_at}
use Rattle.index.specs.declared.Index.{Index}
use Rattle.index.specs.Shapes.{place_of, places, EachEntry, end, and, Stood, Indexed}
use Rattle.index.specs.Entries.{each_filter}
use Rattle.index.specs.Views.{select_stood}
use Rattle.index.specs.AtMostOne.{AtMostOne, sound_few, settled_pairs}

pub only : {g : Geometry} {s : Bytes} {es : List Entry} → EachEntry (Stood g s) es → length es ≤ 1 → places es ≡ one_at (place_of (first es))
unfolding places one_at place_of first stands
only end l = refl
only (and {e} p end) l = rw (ne_eqb e.place 0 (λ z. omega (arith, p.place)))
only (and p (and q r)) l = absurd (omega arith)

-- the index r has the whole lists of v
pub record WholeIndex (v : Survey) (r : Index) : Type 0 where
  pub current : (f : ℕ) → f < 256 → places (filter (of_file f) (select is_current_file v)) ≡ one_at (get_or r.current f 0)
  pub opened : places (select is_open v) ≡ one_at r.opened
  pub committed : places (select is_committed v) ≡ one_at r.committed
  pub torn : places (select is_torn v) ≡ one_at r.torn
  pub allocated : places (select is_allocated v) ≡ one_at r.allocated

module _ (g : Geometry) (s : Bytes) (r : Index) (x : Indexed g s r) where
  abbrev v : Survey
  v = survey g s

  module _ (sound : standing g v ≡ Neither → ⊥) where
    few : AtMostOne (counts v.entries)
    few = sound_few g v sound

    one_current : (f : ℕ) → length (filter (of_file f) (select is_current_file v)) ≤ 1
    unfolding select counts is_current_ok
    one_current f =
        let cs = pick is_current_file v.entries in
        pairs_few f cs (eqb-true (pairs cs) 0 (and_inv (eqb (pairs cs) 0) (all (λ (e : Entry). is_data e.descriptor) cs) few.current).0)

    pub whole : WholeIndex v r
    unfolding select counts committed_view
    whole =
        let k = select_stood g s x.stood in
        record {
          current = λ f l. only (each_filter (of_file f) (k is_current_file)) (one_current f) ∙ ap one_at (sym (x.says.current f l));
          opened = only (k is_open) few.opened ∙ ap one_at (sym x.says.opened);
          committed = only (k is_committed) few.committed ∙ ap one_at (sym x.says.committed);
          torn = only (k is_torn) (omega (arith, few.unfinished)) ∙ ap one_at (sym x.says.torn);
          allocated = only (k is_allocated) (omega (arith, few.unfinished)) ∙ ap one_at (sym x.says.allocated);
        }

-- a file has at most one pending descriptor in a settled image
pub whole_earlier : (g : Geometry) (s : Bytes) → EachEntry (Stood g s) (survey g s).entries → standing g (survey g s) ≡ Settled → (f : ℕ)
    → places (earlier_of f (survey g s)) ≡ one_at (place_of (first (earlier_of f (survey g s))))
unfolding earlier_of select counts
whole_earlier g s k h f = only (each_filter (of_file f) (select_stood g s k is_pending_file)) (pairs_few f (pick is_pending_file (survey g s).entries) (settled_pairs g (survey g s) h))
