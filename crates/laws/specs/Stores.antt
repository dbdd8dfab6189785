-- Where a store's steps aim, in a settled image: also its data, for the low of the home that it goes to is even.
use Rattle.std.specs.Prelude.{◌≡◌, ℕ, ◌%◌, ◌<◌, length}
use Rattle.std.proofs.Math.Path.{refl}
use mathlib.Core.List.{List, []}
use Rattle.std.proofs.Common.{arith}
use Rattle.rules.specs.Flash.{Bytes, Step, finish}
use Rattle.rules.specs.Unit.{is_pending_file}
use Rattle.rules.specs.Settled.{Entry, Survey, survey, select, of_file}
use Rattle.rules.specs.Sound.{home_at, standing}
use Rattle.rules.specs.Jobs.{reclaim, vacant, Place, as_it_stands, once_reclaimed, no_room, place, become, fill_in, Stored, can, size_for, store_in, store_at, store_job, no_earlier, earlier_of}
use Rattle.laws.specs.Lists.{Every, every_append, every_filter}
use Rattle.laws.specs.Units.{RightGeometry, even_size_lem, EvenPlace, base_even, stands_even, home_stands, select_even}
use Rattle.laws.specs.Rooms.{settled_low}
use Rattle.laws.specs.Reclaimed.{reclaimed_low}
use Rattle.laws.specs.Aims.{Aimed, become_aimed, store_aimed, reclaim_aimed}
use Rattle.laws.specs.Tests.{clash}
use Rattle.rules.specs.declared.Geometry.{Geometry}
use Rattle.rules.specs.declared.Rule.{Rule}
use Rattle.rules.specs.declared.Standing.TheVariants.{Settled}

module _ (g : Geometry) (s : Bytes) (ok : RightGeometry g s) (rule : Rule) (tag : ℕ) (content : Bytes) (earlier : Survey → List Entry)
    (past : (r : Bytes) → Every EvenPlace (earlier (survey g r))) where
  -- In unit L of the image r, after steps that aim well, where L's low is even or there is no content.
  store_in_lem : (before : List Step) (L : ℕ) (r : Bytes) → Every (Aimed g) before → (0 < length content → (home_at (survey g r).homes L).room.low % 2 ≡ 0)
      → Every (Aimed g) (store_in tag content earlier before L (survey g r)).job
  unfolding store_in size_for
  store_in_lem before L r b low =
      every_append (Aimed g) before _ b
      (every_append (Aimed g) (fill_in _ _ _ tag content) (become _ (earlier (survey g r)))
      (store_aimed g (even_size_lem ok) _ _ _ tag content (omega (arith, base, stands_even (vacant (home_at (survey g r).homes L).room.array))) (λ l. omega (arith, base, low l)))
      (become_aimed g _ (earlier (survey g r)) (past r)))
    where
      base : (home_at (survey g r).homes L).unit.base % 2 ≡ 0
      base = base_even g (even_size_lem ok) (home_stands g (omega (arith, ok.some)) r L)

  store_at_lem : standing g (survey g s) ≡ Settled → (p : Place) → place g rule (size_for content) (survey g s) ≡ p
      → (x : Stored) → store_at g tag content earlier s (survey g s) p ≡ can x → Every (Aimed g) x.job
  unfolding store_at
  store_at_lem t no_room q x e = clash (cc)
  store_at_lem t (as_it_stands L) q x e =
      let k : store_in tag content earlier [] L (survey g s) ≡ x = cc in
      rw k at (store_in_lem [] L s tt (λ l. settled_low g (even_size_lem ok) s t L))
  store_at_lem t (once_reclaimed L) q x e =
      let k : store_in tag content earlier (reclaim g (survey g s) L) L (survey g (finish (reclaim g (survey g s) L) s)) ≡ x = cc in
      rw k at (store_in_lem (reclaim g (survey g s) L) L (finish (reclaim g (survey g s) L) s) (reclaim_aimed g (even_size_lem ok) (omega (arith, ok.some)) s L)
      (λ l. reclaimed_low g s ok t rule L (size_for content) (unfold size_for in omega arith) q))

  -- A store in a settled image programs at even offsets, and erases a whole unit where it reclaims one.
  pub stored_aimed : standing g (survey g s) ≡ Settled → (x : Stored) → store_job g rule tag content earlier s (survey g s) ≡ can x → Every (Aimed g) x.job
  unfolding store_job
  stored_aimed t x e = store_at_lem t (place g rule (size_for content) (survey g s)) refl x e

-- No earlier descriptor stands at an odd offset.
pub none_earlier : (g : Geometry) (r : Bytes) → Every EvenPlace (no_earlier (survey g r))
unfolding no_earlier
none_earlier g r = tt

-- So does a file's earlier pending one.
pub earlier_even : (g : Geometry) → g.size % 2 ≡ 0 → 0 < g.units → (f : ℕ) (r : Bytes) → Every EvenPlace (earlier_of f (survey g r))
unfolding earlier_of
earlier_even g even u f r = every_filter EvenPlace (of_file f) (select is_pending_file (survey g r)) (select_even g even u is_pending_file r)
