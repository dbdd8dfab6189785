-- The reader's lists of commit, abort and mount, by the places of an index.
use Rattle.std.specs.Prelude.{◌≡◌, List, ℕ, length}
use Rattle.std.proofs.Common.{sym, ap, ◌∙◌, arith}
use Rattle.rules.specs.Flash.{Bytes, Step, state, run, Run}
use Rattle.rules.specs.Unit.{Descriptor, descriptor, stands, is_pending_file}
use Rattle.rules.specs.Settled.{Entry, Survey, survey, select}
use Rattle.rules.specs.Sound.{standing}
use Rattle.rules.specs.Jobs.{commit_job, abort_job, tidy}
use Rattle.laws.specs.Lists.{Every}
use Rattle.laws.specs.Words.{word_drop}
use Rattle.rules.specs.declared.Geometry.{Geometry}
use Rattle.rules.specs.declared.Standing.TheVariants.{Neither}
use Rattle.unit.specs.Spots.{SpotIf}
use Rattle.step_new.specs.Places as Jobs
use Rattle.step_end.specs.Turns.{Currents, Tagged, commit_at, abort_at, tidy_at}
use Rattle.step_end.proofs.TurnLaws.{commit_is, abort_is, tidy_is}
use Rattle.index.specs.declared.Index.{Index}
use Rattle.index.specs.Shapes.{places, EachEntry, end, and, Stood, Indexed}
use Rattle.index.specs.Views.{select_stood}
use Rattle.index.specs.Only.{WholeIndex, whole}

tagged : {g : Geometry} {s : Bytes} {e : Entry} → Stood g s e → Tagged s e
unfolding stands descriptor
tagged {g} {s} {e} h =
    record {
      some = λ z. omega (arith, h.place);
      tag = sym (ap (λ (d : Descriptor). d.tag) h.descriptor) ∙ word_drop e.place s 6;
    }

each_tagged : {g : Geometry} {s : Bytes} {es : List Entry} → EachEntry (Stood g s) es → Every (Tagged s) es
each_tagged end = tt
each_tagged (and p r) = (tagged p, each_tagged r)

-- ---- what the steps ask of the places
pub record StepSpots (bytes : ℕ) (i : Index) : Type 0 where
  pub current : Currents bytes i.current
  pub pending : Jobs.AllSpots bytes i.pending
  pub opened : SpotIf bytes i.opened
  pub committed : SpotIf bytes i.committed
  pub torn : SpotIf bytes i.torn
  pub allocated : SpotIf bytes i.allocated

module _ (g : Geometry) (s : Bytes) (i : Index) (x : Indexed g s i) where
  pub spots : StepSpots (length s) i
  spots =
      let k = x.spots in
      record {
        current = k.current;
        pending = k.pending;
        opened = k.opened;
        committed = k.committed;
        torn = k.torn;
        allocated = k.allocated;
      }

  abbrev v : Survey
  v = survey g s

  listed : i.pending ≡ places (select is_pending_file v)
  listed = x.says.pending

  pending_tagged : Every (Tagged s) (select is_pending_file v)
  pending_tagged = each_tagged (select_stood g s x.stood is_pending_file)

  -- ---- the jobs of a sound image
  module _ (sound : standing g v ≡ Neither → ⊥) where
    w : WholeIndex v i
    w = whole g s i x sound

    pub commit_places : commit_job v ≡ commit_at s i.current i.pending i.opened
    commit_places = commit_is s i.current v i.pending listed w.current pending_tagged i.opened w.opened

    pub abort_places : abort_job v ≡ abort_at i.pending i.opened
    abort_places = abort_is s i.current v i.pending listed i.opened w.opened

    pub tidy_places : tidy v ≡ tidy_at s i.current i.pending i.torn i.allocated i.opened i.committed
    tidy_places =
        tidy_is s i.current v i.pending listed w.current pending_tagged i.torn i.allocated i.opened i.committed
        w.torn w.allocated w.opened w.committed

    -- ---- what a run of the steps by places is
    module _ (t : Bytes) (r was : Run) (opened : ℕ) (o : opened ≡ i.opened) where
      pub commit_run : state t r ≡ run (commit_at s i.current i.pending opened) (state s was) → state t r ≡ run (commit_job v) (state s was)
      commit_run e = e ∙ ap (λ (x : ℕ). run (commit_at s i.current i.pending x) (state s was)) o ∙ ap (λ (xs : List Step). run xs (state s was)) (sym commit_places)

      pub abort_run : state t r ≡ run (abort_at i.pending opened) (state s was) → state t r ≡ run (abort_job v) (state s was)
      abort_run e = e ∙ ap (λ (x : ℕ). run (abort_at i.pending x) (state s was)) o ∙ ap (λ (xs : List Step). run xs (state s was)) (sym abort_places)

      pub tidy_run : (torn allocated committed : ℕ) → torn ≡ i.torn → allocated ≡ i.allocated → committed ≡ i.committed
          → state t r ≡ run (tidy_at s i.current i.pending torn allocated opened committed) (state s was) → state t r ≡ run (tidy v) (state s was)
      tidy_run torn allocated committed a b c e = e ∙ rw (a, b, o, c) (ap (λ (xs : List Step). run xs (state s was)) (sym tidy_places))
