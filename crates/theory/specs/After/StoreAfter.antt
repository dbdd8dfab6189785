-- A store that first reclaims a unit: its handle and all its steps, by what the image is read as before the first of them.
use Rattle.std.specs.Prelude.{true, ◌≡◌, ◌+◌, ◌-◌, ◌<◌, ℕ, get_or, length}
use mathlib.Core.List.{List, [], ◌++◌}
use Rattle.std.proofs.Common.{◌∙◌, subst, sym, arith}
use Rattle.std.proofs.Math.Path.{ap, refl}
use Rattle.rules.specs.Copy.{packed}
use Rattle.rules.specs.Flash.{Bytes, Step, finish}
use Rattle.rules.specs.Jobs.{Place, Stored, can, earlier_of, fill_in, fits, no_earlier, once_reclaimed, place, reclaim, size_for}
use Rattle.rules.specs.Jobs.{store_at, store_in, store_job, vacant}
use Rattle.rules.specs.Settled.{Entry, Survey, survey}
use Rattle.rules.specs.Sound.{home_at}
use Rattle.rules.specs.Unit.{Room, old, room_for, stands}
use Rattle.rules.specs.declared.Geometry.{Geometry}
use Rattle.rules.specs.declared.Rule.{Rule}
use Rattle.theory.specs.Images.Model.{all_entries, no_laid_home, the_survey}
use Rattle.theory.specs.Tidying.Sorted.{OrderlyE, Quiet, sorted}
use Rattle.theory.specs.Tidying.Held.{Safe, survey_is}
use Rattle.theory.specs.Storing.Place.{Placed, fits_here, fits_nowhere, fits_then, placed, room_then}
use Rattle.theory.specs.After.Rebased.{become_at, become_at_lem, follow_places, places_of, rebased_all}
use Rattle.theory.specs.After.AfterMove.{AfterMove, after_reclaim, moved_place}

-- the room of home L once it is reclaimed
unfoldable pub room_after : Geometry → Survey → ℕ → Room
room_after g v L = room_for g (packed g.size (home_at v.homes L).room.array)

-- The store in L once L is reclaimed, v being read before the reclaim; then what stands at `places` becomes old.
unfoldable pub stored_after : Geometry → ℕ → Bytes → List ℕ → Survey → ℕ → Stored
stored_after g tag content places v L =
    let r = room_after g v L in
    let p = vacant r.array in
    record {
      at = record { unit = L; position = p };
      job = reclaim g v L ++ (fill_in (v.spare.base + stands p) v.spare.base (r.low - size_for content) tag content ++ become_at old places);
    }

-- store_in, by what it reads of the survey
stored_by : ℕ → Bytes → List Step → ℕ → ℕ → Room → List Step → Stored
stored_by tag content before L base r end = record {
  at = record { unit = L; position = vacant r.array };
  job = before ++ (fill_in (base + stands (vacant r.array)) base (r.low - size_for content) tag content ++ end);
}

pub store_moved : (g : Geometry) (tag : ℕ) (content : Bytes) (earlier : Survey → List Entry) (v : Survey) (L : ℕ) (w : Survey) → AfterMove g v L w
    → store_in tag content earlier (reclaim g v L) L w ≡ stored_after g tag content (places_of (earlier w)) v L
unfolding store_in stored_after room_after stored_by
store_moved g tag content earlier v L w a = λ i. stored_by tag content (reclaim g v L) L (a.base i) (a.room i) (become_at_lem old (earlier w) i)

module _ (g : Geometry) (s : Bytes) (h : Safe g s) (quiet : Quiet (sorted (all_entries g 0 h.ps))) where
  abbrev v : Survey
  v = the_survey g h.us h.ps h.sp h.stands

  record Fitting (e L : ℕ) : Type 0 where
    inside : L < length h.ps
    fit : fits e (room_then g (get_or h.ps L no_laid_home)) ≡ true

  fitting : (rule : Rule) (e L : ℕ) → place g rule e (survey g s) ≡ once_reclaimed L → Fitting e L
  fitting rule e L q = go (place g rule e v) (placed g h.ps rule e v refl) (ap (place g rule e) (sym (survey_is g OrderlyE s h)) ∙ q)
    where
      go : (pl : Place) → Placed g h.ps e pl → pl ≡ once_reclaimed L → Fitting e L
      go pl (fits_here i l f) z = absurd (let y : ◌≡◌ {A = ℕ} 0 1 = cc in let x : ⊥ = omega arith in x)
      go pl (fits_then i l f) z = subst (Fitting e) same (record { inside = l; fit = f })
        where
          same : i ≡ L
          same = cc
      go pl fits_nowhere z = absurd (let y : ◌≡◌ {A = ℕ} 0 1 = cc in let x : ⊥ = omega arith in x)

  -- the unit that a store reclaims is a logical one, and fits once it is reclaimed
  pub reclaimed_inside : (rule : Rule) (e L : ℕ) → place g rule e (survey g s) ≡ once_reclaimed L → L < g.units - 1
  reclaimed_inside rule e L q = omega (arith, (fitting rule e L q).inside, h.stands.many, h.stands.units)

  module _ (rule : Rule) (tag : ℕ) (content : Bytes) (L : ℕ) (q : place g rule (size_for content) (survey g s) ≡ once_reclaimed L) where
    after : AfterMove g (survey g s) L (survey g (finish (reclaim g (survey g s) L) s))
    after = after_reclaim g s h quiet L (reclaimed_inside rule (size_for content) L q)

    store_by : (earlier : Survey → List Entry) (places : List ℕ) → places_of (earlier (survey g (finish (reclaim g (survey g s) L) s))) ≡ places
        → store_job g rule tag content earlier s (survey g s) ≡ can (stored_after g tag content places (survey g s) L)
    unfolding store_job store_at
    store_by earlier places e =
        ap (store_at g tag content earlier s (survey g s)) q
        ∙ ap can (store_moved g tag content earlier (survey g s) L (survey g (finish (reclaim g (survey g s) L) s)) after ∙ ap (λ (l : List ℕ). stored_after g tag content l (survey g s) L) e)

    -- a change of file f
    pub store_reclaimed : (f : ℕ) → store_job g rule tag content (earlier_of f) s (survey g s) ≡ can (stored_after g tag content (rebased_all (moved_place g (survey g s) L) (places_of (earlier_of f (survey g s)))) (survey g s) L)
    store_reclaimed f = store_by (earlier_of f) (rebased_all (moved_place g (survey g s) L) (places_of (earlier_of f (survey g s)))) (follow_places (after.earlier f))

    -- a transaction
    pub begin_reclaimed : store_job g rule tag content no_earlier s (survey g s) ≡ can (stored_after g tag content [] (survey g s) L)
    unfolding places_of no_earlier
    begin_reclaimed = store_by no_earlier [] refl
