-- A unit as the code reads it: the array is read in one walk that hands on n and low, and each sector is held against those before it.
-- The files Bridge* have the laws that each is the reader's definition.
use Rattle.std.specs.Prelude.{◌≡◌, Bool, true, false, not, cond, ◌&&◌, ◌||◌, List, [], ◌∷◌, ℕ, zero, suc, ◌+◌, ◌-◌, ◌/◌, ◌%◌, ◌≤◌, length, drop, leb, eqb}
use Rattle.rules.specs.Lists.{all}
use Rattle.rules.specs.Flash.{Bytes}
use Rattle.rules.specs.Unit.{header_bytes, descriptor_bytes, stands, Descriptor, descriptor, is_empty, has_sector, is_listed, size, lower, is_placed, apart}
use Rattle.rules.specs.Unit
use Rattle.rules.specs.Copy.{is_kept}
use Rattle.rules.specs.declared.Geometry.{Geometry}
use Rattle.unit.specs.declared.Room.{Room}

-- the descriptor at an offset
abbrev pub descriptor_at : Bytes → ℕ → Descriptor
descriptor_at s at = descriptor (drop at s)

-- one more than the last non-empty position, at position p
unfoldable pub reach : Descriptor → ℕ → ℕ → ℕ
reach d n p = cond (is_empty d) n (p + 1)

-- its sector ends at or below low, or there is nothing of it
unfoldable pub is_below : Descriptor → ℕ → Bool
is_below d low = not (has_sector d) || eqb (size d) 0 || leb (d.offset + size d) low

-- the array, read upward: the bytes from position p on, the lowest offset so far, and one more than the last non-empty position
unfoldable pub upward : ℕ → Bytes → ℕ → ℕ → ℕ → Room
upward zero r p low n = record { n = n; low = low }
upward (suc k) r p low n =
    let d = descriptor r in
    elim (leb (stands p + descriptor_bytes) low) [
      | true ↦ upward k (drop descriptor_bytes r) (p + 1) (lower low d) (reach d n p)
      | false ↦ record { n = n; low = low }
    ]

-- the first position from p on that is not empty, or else the first that would reach over low
unfoldable pub used_from : ℕ → Bytes → ℕ → ℕ → ℕ
used_from zero r p low = p
used_from (suc k) r p low = cond (leb (stands p + descriptor_bytes) low) (cond (is_empty (descriptor r)) (used_from k (drop descriptor_bytes r) (p + 1) low) p) p

unfoldable pub room_of : ℕ → Bytes → Room
room_of S u = upward S (drop header_bytes u) 0 S 0

-- the first n descriptors
unfoldable pub table : ℕ → Bytes → List Descriptor
table zero r = []
table (suc k) r = descriptor r ∷ table k (drop descriptor_bytes r)

unfoldable pub array_of : ℕ → Bytes → List Descriptor
array_of n u = table n (drop header_bytes u)

-- the first p descriptors, the last of them first
unfoldable pub earlier : ℕ → Bytes → List Descriptor
earlier zero u = []
earlier (suc p) u = descriptor_at u (stands p) ∷ earlier p u

-- the lowest offset of those before
unfoldable pub lowest_of : ℕ → List Descriptor → ℕ
lowest_of top [] = top
lowest_of top (d ∷ es) = lower (lowest_of top es) d

-- each descriptor is right, and its sector is apart from those before
unfoldable pub all_ok : Geometry → ℕ → List Descriptor → List Descriptor → Bool
all_ok g floor es [] = true
all_ok g floor es (d ∷ ds) =
    elim (is_listed d && is_placed g floor d) [
      | false ↦ false
      | true ↦ elim (all (apart d) es) [ false ↦ false | true ↦ all_ok g floor (d ∷ es) ds ]
    ]

-- words as bytes, low byte first
unfoldable pub bytes_of : List ℕ → Bytes
bytes_of [] = []
bytes_of (w ∷ ws) = w % 256 ∷ w / 256 ∷ bytes_of ws

-- the descriptors from position p on, as a reclaim would leave them: n and low
unfoldable pub kept_from : List Descriptor → ℕ → ℕ → ℕ → Room
kept_from [] p low n = record { n = n; low = low }
kept_from (d ∷ ds) p low n = kept_from ds (p + 1) (cond (is_kept d) (low - size d) low) (cond (is_kept d) (p + 1) n)

-- the first that a reclaim would leave empty, else their number
unfoldable pub unkept : List Descriptor → ℕ
unkept [] = 0
unkept (d ∷ ds) = elim (is_kept d) [ true ↦ suc (unkept ds) | false ↦ 0 ]

-- r has n and low of the reader's room
pub record RoomIs (r : Room) (room : Unit.Room) : Type 0 where
  pub n : r.n ≡ Unit.n room
  pub low : r.low ≡ room.low

-- r was read from the unit u, which is of the geometry's size
pub record Read (g : Geometry) (u : Bytes) (r : Room) : Type 0 where
  pub whole : length u ≡ g.size
  pub large : 16 ≤ g.size
  pub small : g.size ≤ 4096
  pub room : r ≡ room_of g.size u
