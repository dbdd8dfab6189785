-- What the walk over all entries leaves of one file: the places of the reader's first ones.
use Prim.Native.Nat.{ℕ, ◌+◌, ◌≤◌}
use Rattle.std.proofs.Common.{◌∙◌}
use Rattle.std.specs.Prelude.{◌≡◌, Bool, true, cond, ◌&&◌, length}
use Rattle.std.proofs.Math.Path.{refl, ap}
use mathlib.Core.List.{List}
use Rattle.std.proofs.Math.Dec.{eqb}
use Rattle.rules.specs.Lists.{first}
use Rattle.rules.specs.Flash.{Bytes}
use Rattle.rules.specs.Unit.{Descriptor, is_empty, is_open, is_pending_file, is_current_file, file_of}
use Rattle.rules.specs.Opened.{descriptors}
use Rattle.rules.specs.Settled.{Entry, Survey, survey, select}
use Rattle.rules.specs.Views.{committed_view}
use Rattle.rules.specs.Jobs.{earlier_of}
use Rattle.rules.specs.declared.Geometry.{Geometry}
use Rattle.laws.specs.Units.{right_geometry}
use Rattle.index.specs.Shapes.{place_of, Homed, EachEntry, Stood, once, shown_by}
use Rattle.index.specs.Entries.{stood, at_place}
use Rattle.index.specs.Views.{earlier_stands, shown_is}
use Rattle.index.specs.Walk.{met_all, empty_words}
use Rattle.index.specs.Met.{first_met, filter_both}
use Rattle.index_seek.specs.declared.Seeker.{Seeker}
use Rattle.index_seek.specs.Sought.{Seeks, seek_one, none_sought}

-- what is empty is nobody's
pub seek_empty : (a : ℕ) (d : Descriptor) (x : Seeker) → is_empty d ≡ true → seek_one a d x ≡ x
unfolding seek_one descriptors
seek_empty a d x h = rw (empty_words d h).0

module _ (g : Geometry) (s : Bytes) (home : List ℕ) (known : Homed g s home) (f : ℕ) where
  abbrev v : Survey
  v = survey g s

  all : EachEntry (Stood g s) v.entries
  all = stood g s home known

  abbrev pub found : Seeker
  found = met_all seek_one v.entries (none_sought f)

  -- the first of a kind
  first_one : (t : Descriptor → Bool) (get : Seeker → ℕ) → ((a : ℕ) (d : Descriptor) (x : Seeker) → x.file ≡ f → get (seek_one a d x) ≡ cond (t d) (once (get x) a) (get x))
      → get (none_sought f) ≡ 0 → get found ≡ place_of (first (select t v))
  unfolding once select seek_one
  first_one t get law z = first_met seek_one t get (λ (x : Seeker). x.file ≡ f) (λ a d x k. k) law all (none_sought f) refl ∙ rw z

  opened_is : found.opened ≡ place_of (first (select is_open v))
  unfolding seek_one
  opened_is = first_one is_open (λ (x : Seeker). x.opened) (λ a d x k. refl) refl

  current_is : found.current ≡ place_of (committed_view f v)
  unfolding select committed_view seek_one
  current_is =
      first_one (λ (d : Descriptor). is_current_file d && eqb (file_of d) f) (λ (x : Seeker). x.current) (λ a d x k. rw k) refl
      ∙ ap (λ (xs : List Entry). place_of (first xs)) (filter_both is_current_file f v.entries)

  pub pending_is : found.pending ≡ place_of (first (earlier_of f v))
  unfolding select earlier_of seek_one
  pending_is =
      first_one (λ (d : Descriptor). is_pending_file d && eqb (file_of d) f) (λ (x : Seeker). x.pending) (λ a d x k. rw k) refl
      ∙ ap (λ (xs : List Entry). place_of (first xs)) (filter_both is_pending_file f v.entries)

  pub pending_inside : (found.pending ≡ 0 → ⊥) → found.pending + 8 ≤ length s
  pending_inside n = rw pending_is (at_place g s (right_geometry g s known.right) (first (earlier_of f v)) (earlier_stands g s all f) (λ z. n (pending_is ∙ z))).spot.inside

  pub seek_law : (a : ℕ) → a ≡ shown_by s found.pending found.current → Seeks g s f (record { opened = found.opened; current = found.current; pending = found.pending; shown = a })
  seek_law a q = record { opened = opened_is; current = current_is; pending = pending_is; shown = q ∙ shown_is g s all f found.pending found.current pending_is current_is }
