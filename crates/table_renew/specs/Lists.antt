-- The places of what is current of the files, as a walk over the descriptors of the homes lists them.
use Rattle.std.specs.Prelude.{◌≡◌, true, cond, eqb, length, []}
use Rattle.std.proofs.Math.Path.{refl}
use Rattle.std.proofs.Common.{◌∙◌}
use mathlib.Core.List.{List}
use Prim.Native.Nat.{ℕ, ◌≤◌}
use native.Mathlib.Omega.{arith}
use Rattle.std.proofs.Math.Nat.{zero-add}
use borrow.Author.Tests.{eqb-true}
use Rattle.rules.specs.Lists.{all}
use Rattle.rules.specs.Flash.{Bytes, is_geometry}
use Rattle.rules.specs.Unit.{Descriptor, is_empty, is_data, is_current_file}
use Rattle.rules.specs.Opened.{descriptors}
use Rattle.rules.specs.Settled.{Entry, Survey, survey, pick, select, pairs, is_current_ok, counts}
use Rattle.rules.specs.Sound.{standing}
use Rattle.rules.specs.declared.Geometry.{Geometry}
use Rattle.rules.specs.declared.Standing.TheVariants.{Settled}
use Rattle.laws.specs.Tests.{and_inv}
use Rattle.unit.specs.Spots.{places}
use Rattle.call_look.specs.Guards.{settled_sound}
use Rattle.index.specs.Places.{with_place}
use Rattle.index.specs.Shapes.{EachEntry, Stood}
use Rattle.index.specs.Entries.{stood}
use Rattle.index.specs.AtMostOne.{few_more, sound_few}
use Rattle.index.specs.Walk.{met_all, empty_words}
use Rattle.index.specs.Met.{length_places, places_met}
use Rattle.call_look.specs.Known.{Known}
use Rattle.table_renew.specs.declared.Laid.{Laid}

-- the descriptor d that stands at a
unfoldable pub list_one : ℕ → Descriptor → Laid → Laid
list_one a d x = record { places = cond (is_current_file d) (with_place a x.places) x.places }

-- an empty one is not current
pub list_empty : (a : ℕ) (d : Descriptor) (x : Laid) → is_empty d ≡ true → list_one a d x ≡ x
unfolding list_one descriptors
list_empty a d x h = rw (empty_words d h).0

-- Of a settled image: the places of what is current, in order.
pub record CurrentListed (g : Geometry) (s : Bytes) (ps : List ℕ) : Type 0 where
  pub right : is_geometry g (length s) ≡ true
  pub settled : standing g (survey g s) ≡ Settled
  pub stood : EachEntry (Stood g s) (survey g s).entries
  pub few : length ps ≤ 256
  pub places : ps ≡ places (select is_current_file (survey g s))

module _ (g : Geometry) (s : Bytes) (home : List ℕ) (known : Known g s home) where
  abbrev v : Survey
  v = survey g s

  few_current : length (select is_current_file v) ≤ 256
  unfolding select counts is_current_ok
  few_current =
      let cs = pick is_current_file v.entries in
      omega (arith, few_more cs, eqb-true (pairs cs) 0 (and_inv (eqb (pairs cs) 0) (all (λ (e : Entry). is_data e.descriptor) cs) (sound_few g v (settled_sound (standing g v) known.settled)).current).0)

  module _ (x : Laid) (none : x.places ≡ []) where
    pub list_law : CurrentListed g s (met_all list_one v.entries x).places
    unfolding select list_one
    list_law =
        let few = few_current in
        let e = places_met list_one is_current_file (λ (y : Laid). y.places) (λ a d y. refl) v.entries x (rw (none, zero-add) (omega arith)) ∙ rw none in
        record {
          right = known.homed.right;
          settled = known.settled;
          stood = stood g s home known.homed;
          few = rw (e, length_places (select is_current_file v)) few;
          places = e;
        }
