-- A store's handle and steps, by numbers that stand before its first step; and what makes a call one that stores.
use Rattle.std.specs.Prelude.{◌≡◌, true, cond, List, ◌++◌, ℕ, ◌+◌, ◌-◌, ◌*◌, ◌≤◌, ◌<◌, length, get_or, eqb}
use Rattle.rules.specs.Flash.{Bytes, Step, is_geometry}
use Rattle.rules.specs.Unit.{Room, header_bytes, old, stands}
use Rattle.rules.specs.Copy.{is_copyable}
use Rattle.rules.specs.Settled.{survey}
use Rattle.rules.specs.Jobs
use Rattle.rules.specs.Jobs.{fill_in, fits, move, size_for, as_it_stands, once_reclaimed, no_room}
use Rattle.rules.specs.Calls
use Rattle.rules.specs.Calls.{Call, plan}
use Rattle.rules.specs.Answers.{makes, refuses}
use Rattle.rules.specs.declared.NotDone.TheVariants.{NoRoom}
use Rattle.rules.specs.declared.Geometry.{Geometry}
use Rattle.rules.specs.declared.Rule.{Rule}
use Rattle.rules.specs.declared.Handle.{Handle}
use Rattle.step_move.specs.Copying.{part}
use Rattle.step_new.specs.Places.{Spot, become_at, one_at}
use Rattle.index.specs.Shapes.{Homed, base_at}
use Rattle.judge.specs.Judged.{unit_in}
use Rattle.place.specs.Homes.{HomesTable, home_in}
use Rattle.place.specs.Search.{room_once}
pub use Rattle.call_answer.specs.Laws.{MeetsCall}
use Rattle.call_look.specs.Known.{Known, Remaining}
use Rattle.theory.specs.After.Rebased.{rebased}

-- a descriptor's place in an image of so many bytes: behind its unit's header; 0 is none
pub record Behind (g : Geometry) (bytes a : ℕ) : Type 0 where
  pub spot : Spot bytes a
  pub high : header_bytes ≤ a - base_at g a

abbrev pub BehindIf : Geometry → ℕ → ℕ → Type 0
BehindIf g bytes a = (a ≡ 0 → ⊥) → Behind g bytes a

-- the new descriptor's steps in the unit at base, and those of the earlier one at a
unfoldable pub new_at : ℕ → ℕ → ℕ → ℕ → Bytes → ℕ → List Step
new_at base p low tag content a = fill_in (base + stands p) base (low - size_for content) tag content ++ become_at old (one_at a)

-- where a unit of the table begins
abbrev pub base_of : Geometry → List ℕ → ℕ → ℕ
base_of g homes L = get_or homes L 0 * g.size

-- the steps of a store in a unit as it stands
unfoldable pub here_job : Geometry → Bytes → List ℕ → ℕ → Bytes → ℕ → Handle → List Step
here_job g s homes tag content a h =
    new_at (base_of g homes h.unit) h.position (home_in g s homes h.unit).room.low tag content a

-- a unit's room once it is reclaimed
unfoldable pub room_then : Geometry → Bytes → List ℕ → ℕ → Room
room_then g s homes L = room_once g (home_in g s homes L).room

-- the handle of a new descriptor in unit L once it is reclaimed
unfoldable pub handle_then : Geometry → Bytes → List ℕ → ℕ → Handle
handle_then g s homes L = record { unit = L; position = Jobs.vacant (room_then g s homes L).array }

-- a place that may be there, once the unit at `from` stands at `to`
unfoldable pub moved_if : ℕ → ℕ → ℕ → ℕ → ℕ
moved_if from to size a = cond (eqb a 0) 0 (rebased from to size a)

-- the steps of a store in unit L once it is reclaimed
unfoldable pub after_job : Geometry → Bytes → List ℕ → ℕ → ℕ → Bytes → ℕ → ℕ → List Step
after_job g s homes left tag content a L =
    let from = get_or homes L 0 in
    let room = room_then g s homes L in
    move g L (unit_in g s from) (unit_in g s left)
    ++ new_at (left * g.size) (Jobs.vacant room.array) room.low tag content (moved_if (from * g.size) (left * g.size) g.size a)

-- unit L can be reclaimed, and a sector of size e then fits
pub record Reclaims (g : Geometry) (s : Bytes) (homes : List ℕ) (left e L : ℕ) : Type 0 where
  pub right : is_geometry g (length s) ≡ true
  pub table : HomesTable g homes
  pub below : L < g.units - 1
  pub last : left < g.units
  pub apart : get_or homes L 0 ≡ left → ⊥
  pub copyable : is_copyable g (part s (base_of g homes L) g.size) ≡ true
  pub room : fits e (room_then g s homes L) ≡ true

-- the call stores a sector by the rule, and then the descriptor at a becomes old
pub record Stores (g : Geometry) (s : Bytes) (c : Call) (rule : Rule) (tag : ℕ) (content : Bytes) (a k : ℕ) : Type 0 where
  pub allowance : Calls.allowance c ≡ k
  pub nowhere : Jobs.place g rule (size_for content) (survey g s) ≡ no_room → plan g s c ≡ refuses NoRoom
  pub here : (homes : List ℕ) (h : Handle) → Homed g s homes → h.unit < g.units - 1 → h.position ≡ Jobs.vacant (home_in g s homes h.unit).room.array
      → Jobs.place g rule (size_for content) (survey g s) ≡ as_it_stands h.unit → plan g s c ≡ makes h (here_job g s homes tag content a h)
  pub after : (homes : List ℕ) (left L : ℕ) → Known g s homes → Remaining g s left → Jobs.place g rule (size_for content) (survey g s) ≡ once_reclaimed L
      → plan g s c ≡ makes (handle_then g s homes L) (after_job g s homes left tag content a L)
