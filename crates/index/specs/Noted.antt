-- What the walk over all entries leaves in an index: the places of the reader's selections.
use Prim.Native.Nat.{ℕ, zero, suc, ◌≤◌, ◌<◌}
use Rattle.std.proofs.Common.{arith, ◌∙◌, eqb-true, length-set, get_or-set_same, get_or-set_other}
use Rattle.std.specs.Prelude.{◌≡◌, Bool, cond, ◌&&◌, length, set}
use Rattle.std.proofs.Math.Nat.{zero-add}
use Rattle.std.proofs.Math.Path.{refl, sym, ap}
use Rattle.std.proofs.Math.Bool.{true, false}
use mathlib.Core.List.{List}
use Rattle.std.proofs.Math.Option.{Option}
use Rattle.std.proofs.lemmas.Bool.{eqb-false}
use Rattle.std.proofs.Math.Dec.{eqb}
use Rattle.std.proofs.Math.ListN.{get_or}
use Rattle.std.proofs.lemmas.List.{length-replicate, get_or-replicate}
use Rattle.rules.specs.Lists.{first}
use Rattle.rules.specs.Flash.{Bytes}
use Rattle.rules.specs.Unit.{Descriptor, is_torn, is_allocated, is_open, is_committed, is_pending_file, is_current_file, file_of}
use Rattle.rules.specs.Settled.{Entry, survey, pick, select}
use Rattle.rules.specs.Views.{committed_view}
use Rattle.rules.specs.declared.Geometry.{Geometry}
use Rattle.laws.specs.Units.{RightGeometry, right_geometry}
use Rattle.index.specs.declared.Index.{Index}
use Rattle.index.specs.Shapes.{place_of, places, Homed, Indexes, Spot, Spots, EachEntry, end, and, Stood, Indexed, once, none_noted, note_one}
use Rattle.index.specs.Walk.{met_all}
use Rattle.index.specs.Met.{first_met, length_places, places_met, filter_both}
use Rattle.index.specs.Entries.{stood, spot_is, at_place, MayStand}
use Rattle.index.specs.Views.{select_stood, first_stands, committed_stands}

-- each file has its place in the array
abbrev HasAll : Index → Type 0
HasAll x = length x.current ≡ 256

has_all : (a : ℕ) (d : Descriptor) (x : Index) → HasAll x → HasAll (note_one a d x)
unfolding note_one
has_all a d x z = go (is_current_file d)
  where
    go : (b : Bool) → length (cond b (set x.current (file_of d) (once (get_or x.current (file_of d) 0) a)) x.current) ≡ 256
    go true = length-set x.current (file_of d) (once (get_or x.current (file_of d) 0) a) ∙ z
    go false = z

current_one : (f : ℕ) → f < 256 → (a : ℕ) (d : Descriptor) (x : Index) → HasAll x
    → get_or (note_one a d x).current f 0 ≡ cond (is_current_file d && eqb (file_of d) f) (once (get_or x.current f 0) a) (get_or x.current f 0)
unfolding note_one
current_one f l a d x z = go (is_current_file d) (eqb (file_of d) f) refl
  where
    cs : List ℕ
    cs = x.current

    go : (b t : Bool) → eqb (file_of d) f ≡ t
        → get_or (cond b (set cs (file_of d) (once (get_or cs (file_of d) 0) a)) cs) f 0 ≡ cond (b && t) (once (get_or cs f 0) a) (get_or cs f 0)
    go true true q = rw (eqb-true (file_of d) f q) (get_or-set_same cs f (once (get_or cs f 0) a) 0 (omega (arith, z)))
    go true false q = get_or-set_other cs (file_of d) f (once (get_or cs (file_of d) 0) a) 0 (λ e. eqb-false (file_of d) f q (sym e))
    go false t q = refl

module _ (g : Geometry) (s : Bytes) (home : List ℕ) (known : Homed g s home) (few : length (select is_pending_file (survey g s)) ≤ 257) where
  abbrev es : List Entry
  es = (survey g s).entries

  stands_all : EachEntry (Stood g s) es
  stands_all = stood g s home known

  first_one : (t : Descriptor → Bool) (get : Index → ℕ) → ((a : ℕ) (d : Descriptor) (x : Index) → HasAll x → get (note_one a d x) ≡ cond (t d) (once (get x) a) (get x))
      → get none_noted ≡ 0 → get (met_all note_one es none_noted) ≡ place_of (first (pick t es))
  unfolding once none_noted
  first_one t get law z = first_met note_one t get HasAll has_all law stands_all none_noted (length-replicate {A = ℕ} 256 0) ∙ rw z

  listed : (met_all note_one es none_noted).pending ≡ places (pick is_pending_file es)
  unfolding none_noted note_one select
  listed = places_met note_one is_pending_file (λ (x : Index). x.pending) (λ a d x. refl) es none_noted (rw zero-add few)

  says : Indexes (survey g s) (met_all note_one es none_noted)
  unfolding select committed_view note_one none_noted
  says =
      record {
        current = λ f l.
            first_one (λ (d : Descriptor). is_current_file d && eqb (file_of d) f) (λ (x : Index). get_or x.current f 0) (current_one f l) (get_or-replicate 256 f 0 0 l)
            ∙ ap (λ (xs : List Entry). place_of (first xs)) (filter_both is_current_file f es);
        pending = listed;
        few = rw (listed, length_places (pick is_pending_file es)) few;
        opened = first_one is_open (λ (x : Index). x.opened) (λ a d x z. refl) refl;
        committed = first_one is_committed (λ (x : Index). x.committed) (λ a d x z. refl) refl;
        torn = first_one is_torn (λ (x : Index). x.torn) (λ a d x z. refl) refl;
        allocated = first_one is_allocated (λ (x : Index). x.allocated) (λ a d x z. refl) refl;
      }

  o : RightGeometry g s
  o = right_geometry g s known.right

  places_at : {xs : List Entry} → EachEntry (Stood g s) xs → (i : ℕ) → i < length (places xs) → Spot (length s) (get_or (places xs) i 0)
  unfolding places
  places_at end i l = absurd (omega arith)
  places_at (and {e} p r) zero l = spot_is g s e o p
  places_at (and {e} p r) (suc i) l = places_at r i (omega arith)

  -- where a place is that of an entry, a descriptor can stand
  spot_of : (a : ℕ) (t : Option Entry) → a ≡ place_of t → MayStand g s t → (a ≡ 0 → ⊥) → Spot (length s) a
  spot_of a t e h n = rw e (at_place g s o t h (λ z. n (e ∙ z))).spot

  spots : (r : Index) → Indexes (survey g s) r → Spots (length s) r
  spots r x =
      let v = survey g s in
      let k = first_stands g s stands_all in
      record {
        pending = rw x.pending (places_at (select_stood g s stands_all is_pending_file));
        current = λ f l. spot_of (get_or r.current f 0) (committed_view f v) (x.current f l) (committed_stands g s stands_all f);
        opened = spot_of r.opened (first (select is_open v)) x.opened (k is_open);
        committed = spot_of r.committed (first (select is_committed v)) x.committed (k is_committed);
        torn = spot_of r.torn (first (select is_torn v)) x.torn (k is_torn);
        allocated = spot_of r.allocated (first (select is_allocated v)) x.allocated (k is_allocated);
      }

  pub index_law : Indexed g s (met_all note_one es none_noted)
  index_law = record { says = says; spots = spots (met_all note_one es none_noted) says; stood = stands_all }
