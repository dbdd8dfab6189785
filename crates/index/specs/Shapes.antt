-- What an index of an image says, what it notes of one descriptor, and what is read at a place.
use Rattle.std.specs.Prelude.{◌≡◌, cond, List, [], ◌∷◌, ℕ, ◌+◌, ◌-◌, ◌*◌, ◌/◌, ◌≤◌, ◌<◌, length, get_or, set, replicate, drop, ltb, eqb}
use Rattle.std.proofs.Math.Option.{Option, none, some}
use Rattle.rules.specs.Lists.{first}
use Rattle.rules.specs.Flash.{Bytes, word}
use Rattle.rules.specs.Unit.{Descriptor, header_bytes, descriptor_bytes, stands, is_mark, is_torn, is_allocated, is_open, is_committed, is_pending_file, is_current_file, file_of}
use Rattle.rules.specs.Unit
use Rattle.rules.specs.Settled.{Entry, Survey, survey, select}
use Rattle.rules.specs.Views.{committed_view}
use Rattle.rules.specs.declared.Geometry.{Geometry}
use Rattle.rules.specs.declared.Handle.{Handle}
use Rattle.unit.specs.Shapes.{descriptor_at, room_of}
pub use Rattle.unit.specs.Spots.{Spot}
unfoldable pub use Rattle.unit.specs.Spots.{places}
use Rattle.index.specs.declared.Index.{Index}
pub use Rattle.index.specs.Walk.{Homed}
use Rattle.index.specs.Places.{with_place}

-- The place of a descriptor that may be there, 0 where it is not: no descriptor stands at 0.
unfoldable pub place_of : Option Entry → ℕ
place_of none = 0
place_of (some e) = e.place

-- An index says of what is read of an image: where each file's current descriptor stands, where the pending ones stand, in
-- order, and where the first of each other kind does.
pub record Indexes (v : Survey) (r : Index) : Type 0 where
  pub current : (f : ℕ) → f < 256 → get_or r.current f 0 ≡ place_of (committed_view f v)
  pub pending : r.pending ≡ places (select is_pending_file v)
  pub few : length r.pending ≤ 257
  pub opened : r.opened ≡ place_of (first (select is_open v))
  pub committed : r.committed ≡ place_of (first (select is_committed v))
  pub torn : r.torn ≡ place_of (first (select is_torn v))
  pub allocated : r.allocated ≡ place_of (first (select is_allocated v))

-- So at every place of an index.
pub record Spots (bytes : ℕ) (r : Index) : Type 0 where
  pub pending : (i : ℕ) → i < length r.pending → Spot bytes (get_or r.pending i 0)
  pub current : (f : ℕ) → f < 256 → (get_or r.current f 0 ≡ 0 → ⊥) → Spot bytes (get_or r.current f 0)
  pub opened : (r.opened ≡ 0 → ⊥) → Spot bytes r.opened
  pub committed : (r.committed ≡ 0 → ⊥) → Spot bytes r.committed
  pub torn : (r.torn ≡ 0 → ⊥) → Spot bytes r.torn
  pub allocated : (r.allocated ≡ 0 → ⊥) → Spot bytes r.allocated

-- P holds of each.
pub data EachEntry (P : Entry → Type 0) : List Entry → Type 0 where
  end : EachEntry P []
  and : {e : Entry} {es : List Entry} → P e → EachEntry P es → EachEntry P (e ∷ es)

abbrev pub descriptor_in : Bytes → ℕ → Descriptor
descriptor_in s a = Unit.descriptor (drop a s)

-- An entry stands in the unit that stands `unit`-th, and is what is read there.
pub record Stood (g : Geometry) (s : Bytes) (e : Entry) : Type 0 where
  pub unit : ℕ
  pub below : unit < g.units
  pub place : e.place ≡ unit * g.size + stands e.at.position
  pub within : stands e.at.position + descriptor_bytes ≤ g.size
  pub number : word s (unit * g.size) ≡ e.at.unit
  pub descriptor : descriptor_in s e.place ≡ e.descriptor
  pub start : e.start ≡ unit * g.size + e.descriptor.offset

-- An index of the image s.
pub record Indexed (g : Geometry) (s : Bytes) (r : Index) : Type 0 where
  pub says : Indexes (survey g s) r
  pub spots : Spots (length s) r
  pub stood : EachEntry (Stood g s) (survey g s).entries

-- ---- one descriptor noted

-- the first of the two that is a place
unfoldable pub once : ℕ → ℕ → ℕ
once v a = cond (eqb v 0) a v

-- nothing is noted yet
unfoldable pub none_noted : Index
none_noted = record { current = replicate 256 0; pending = []; opened = 0; committed = 0; torn = 0; allocated = 0 }

-- the descriptor d that stands at a
unfoldable pub note_one : ℕ → Descriptor → Index → Index
note_one a d x =
    let f = file_of d in
    record {
      current = cond (is_current_file d) (set x.current f (once (get_or x.current f 0) a)) x.current;
      pending = cond (is_pending_file d) (with_place a x.pending) x.pending;
      opened = cond (is_open d) (once x.opened a) x.opened;
      committed = cond (is_committed d) (once x.committed a) x.committed;
      torn = cond (is_torn d) (once x.torn a) x.torn;
      allocated = cond (is_allocated d) (once x.allocated a) x.allocated;
    }

-- ---- what is read at a place

-- where the unit that it lies in begins, where its sector starts, and its handle
unfoldable pub base_at : Geometry → ℕ → ℕ
base_at g a = a / g.size * g.size

unfoldable pub start_at : Geometry → Bytes → ℕ → ℕ
start_at g s a = base_at g a + (descriptor_in s a).offset

unfoldable pub handle_at : Geometry → Bytes → ℕ → Handle
handle_at g s a = record { unit = word s (base_at g a); position = (a - base_at g a - header_bytes) / descriptor_bytes }

-- what is pending at a where it is no mark, or where nothing is, what is current at c
unfoldable pub shown_by : Bytes → ℕ → ℕ → ℕ
shown_by s a c = cond (eqb a 0) c (cond (is_mark (descriptor_in s a)) 0 a)

-- the place of position p of the unit u at base, where it is read and current
unfoldable pub current_in : ℕ → ℕ → Bytes → ℕ
current_in base p u =
    cond (ltb p (room_of (length u) u).n) (cond (is_current_file (descriptor_at u (stands p))) (base + stands p) 0) 0
