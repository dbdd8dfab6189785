-- A call that stores, by the place that is found.
use Rattle.std.specs.Prelude.{List, ◌≡◌, ℕ, ◌-◌, Some, None, Err}
use Rattle.std.proofs.Common.{sym}
use Rattle.rules.specs.Flash.{Bytes}
use Rattle.rules.specs.Jobs.{size_for}
use Rattle.rules.specs.Answers.{makes}
use Rattle.rules.specs.Calls.{Call, plan}
use Rattle.rules.specs.declared.NotDone.TheVariants.{NoRoom}
use Rattle.rules.specs.declared.Geometry.{Geometry}
use Rattle.rules.specs.declared.Rule.{Rule}
use Rattle.rules.specs.declared.Handle.{Handle}
use Rattle.place.specs.declared.Place.TheVariants as found
use Rattle.place.specs.Homes.{homes_at}
use Rattle.place.specs.Search.{as_place, place_in}
use Rattle.place.specs.Found.{place_vacant}
use Rattle.call_answer.specs.Laws.{refused}
use Rattle.call_look.specs.Known.{Known, Remaining}
use Rattle.call_store.specs.Stores.{MeetsCall, here_job, handle_then, after_job, Stores}
use Rattle.call_store.specs.Laws.{place_found}

module _ (g : Geometry) (s : Bytes) (home : List ℕ) (left : ℕ) (known : Known g s home) (remaining : Remaining g s left) (c : Call) (rule : Rule) (tag : ℕ) (content : Bytes) (a k : ℕ) (x : Stores g s c rule tag content a k) where
  pub here_plan : (h : Handle) → Some (found.AsItStands h) ≡ place_in g rule (size_for content) (homes_at g s home (g.units - 1) 0) → plan g s c ≡ makes h (here_job g s home tag content a h)
  unfolding as_place
  here_plan h q =
      let v = place_vacant g s home rule (size_for content) (g.units - 1) h (sym q) in
      x.here home h known.homed v.below v.position (place_found g s home known.homed rule (size_for content) (Some (found.AsItStands h)) q)

  pub after_plan : (L : ℕ) → Some (found.OnceReclaimed L) ≡ place_in g rule (size_for content) (homes_at g s home (g.units - 1) 0) → plan g s c ≡ makes (handle_then g s home L) (after_job g s home left tag content a L)
  unfolding as_place
  after_plan L q = x.after home left L known remaining (place_found g s home known.homed rule (size_for content) (Some (found.OnceReclaimed L)) q)

  pub full : None ≡ place_in g rule (size_for content) (homes_at g s home (g.units - 1) 0) → MeetsCall g c s (Err NoRoom) s
  unfolding as_place
  full q = refused g s c NoRoom (x.nowhere (place_found g s home known.homed rule (size_for content) None q))
