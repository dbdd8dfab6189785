-- Document 01, "A unit": descriptors, their flags and tags, the array read upward, n, low and the gap.
use Rattle.std.specs.Prelude.{Bool, true, false, not, cond, ◌&&◌, ◌||◌, List, [], ◌∷◌, ℕ, zero, suc, ◌+◌, ◌-◌, ◌*◌, ◌/◌, ◌%◌, min, length, take, drop, leb, eqb}
use Rattle.rules.specs.Lists.{all}
use Rattle.rules.specs.Flash.{Bytes, word, erased}
use Rattle.rules.specs.declared.Geometry.{Geometry}
use Rattle.rules.specs.declared.descriptor.Descriptor as declared

-- Bytes 2-3: state, FFFF while receiving, FFFE live, FFFC retired.
abbrev pub receiving : ℕ
receiving = 0xFFFF

abbrev pub live : ℕ
live = 0xFFFE

abbrev pub retired : ℕ
retired = 0xFFFC

-- From byte 16 upward stand descriptors of eight bytes: where position p's stands.
abbrev pub header_bytes : ℕ
header_bytes = 16

abbrev pub descriptor_bytes : ℕ
descriptor_bytes = 8

unfoldable pub stands : ℕ → ℕ
stands p = header_bytes + descriptor_bytes * p

-- A descriptor is four words: flags, offset in the unit, content length in bytes, tag.
abbrev pub Descriptor : Type 0
Descriptor = declared.Descriptor

-- The one in the first eight bytes.
unfoldable pub descriptor : Bytes → Descriptor
descriptor r = record { flags = word r 0; offset = word r 2; len = word r 4; tag = word r 6 }

unfoldable pub blank : Descriptor
blank = record { flags = 0xFFFF; offset = 0xFFFF; len = 0xFFFF; tag = 0xFFFF }

-- Tags: 1000 hex + file for data, 2000 hex + file for a delete mark, 3000 hex for a transaction. Files are 0 to 255.
unfoldable pub data_tag : ℕ → ℕ
data_tag f = 0x1000 + f

unfoldable pub mark_tag : ℕ → ℕ
mark_tag f = 0x2000 + f

unfoldable pub transaction_tag : ℕ
transaction_tag = 0x3000

-- The flags: FFFE allocated, FFFC pending or open, FFF8 current or committed, FFF0 old, 0000 void.
abbrev pub allocated : ℕ
allocated = 0xFFFE

abbrev pub pending : ℕ
pending = 0xFFFC

abbrev pub current : ℕ
current = 0xFFF8

abbrev pub old : ℕ
old = 0xFFF0

abbrev pub void : ℕ
void = 0

module _ (d : Descriptor) where
  -- FFFF, all four words FFFF: empty.
  unfoldable pub is_empty : Bool
  is_empty = eqb d.flags 0xFFFF && eqb d.tag 0xFFFF && eqb d.offset 0xFFFF && eqb d.len 0xFFFF

  -- FFFF, tag not FFFF: torn.
  unfoldable pub is_torn : Bool
  is_torn = eqb d.flags 0xFFFF && not (eqb d.tag 0xFFFF)

  unfoldable pub is_allocated : Bool
  is_allocated = eqb d.flags allocated

  unfoldable pub is_pending : Bool
  is_pending = eqb d.flags pending

  unfoldable pub is_current : Bool
  is_current = eqb d.flags current

  unfoldable pub is_old : Bool
  is_old = eqb d.flags old

  unfoldable pub is_void : Bool
  is_void = eqb d.flags void

  -- Allocated, pending, current and old ones have a sector; empty, torn and void ones have none.
  unfoldable pub has_sector : Bool
  has_sector = is_allocated || is_pending || is_current || is_old

  unfoldable pub is_listed : Bool
  is_listed = has_sector || is_empty || is_torn || is_void

  unfoldable pub is_data : Bool
  is_data = eqb (d.tag / 256) 0x10

  unfoldable pub is_mark : Bool
  is_mark = eqb (d.tag / 256) 0x20

  unfoldable pub is_transaction : Bool
  is_transaction = eqb d.tag transaction_tag

  unfoldable pub file_of : ℕ
  file_of = d.tag % 256

  -- Contents are 0 to 256 bytes; delete marks and transactions have length 0.
  unfoldable pub is_tagged : Bool
  is_tagged = (is_data && leb d.len 256) || ((is_mark || is_transaction) && eqb d.len 0)

  -- A sector occupies its length rounded up to even.
  unfoldable pub size : ℕ
  size = d.len + d.len % 2

  -- For a transaction, pending is open and current is committed.
  unfoldable pub is_open : Bool
  is_open = is_pending && is_transaction

  unfoldable pub is_committed : Bool
  is_committed = is_current && is_transaction

  -- Of a file: pending data and delete marks, and what is current.
  unfoldable pub is_pending_file : Bool
  is_pending_file = is_pending && not is_transaction

  unfoldable pub is_current_file : Bool
  is_current_file = is_current && not is_transaction

-- The lowest offset seen so far.
unfoldable pub lower : ℕ → Descriptor → ℕ
lower low d = cond (has_sector d) (min low d.offset) low

unfoldable pub lowest : ℕ → List Descriptor → ℕ
lowest low [] = low
lowest low (d ∷ ds) = lowest (lower low d) ds

-- The array is read upward. Reading ends at the first position whose eight bytes would pass the lowest offset seen so far.
-- Here r are the bytes from the next position on, which stands at `at`; k bounds the positions.
unfoldable pub upward : ℕ → Bytes → ℕ → ℕ → List Descriptor
upward zero r at low = []
upward (suc k) r at low =
    elim (leb (at + descriptor_bytes) low) [
      | true ↦ let d = descriptor r in d ∷ upward k (drop descriptor_bytes r) (at + descriptor_bytes) (lower low d)
      | false ↦ []
    ]

-- Up to the last non-empty position read.
unfoldable pub trim : List Descriptor → List Descriptor
trim [] = []
trim (d ∷ ds) = elim (trim ds) [ [] ↦ cond (is_empty d) [] (d ∷ []) | e ∷ es ↦ d ∷ (e ∷ es) ]

-- A unit's room: its descriptors up to the last non-empty one, and low.
pub record Room : Type 0 where
  pub array : List Descriptor
  pub low : ℕ

module _ (g : Geometry) where
  unfoldable pub room_for : List Descriptor → Room
  room_for ds = let t = trim ds in record { array = t; low = lowest g.size t }

  unfoldable pub room_of : Bytes → Room
  room_of u = room_for (upward g.size (drop header_bytes u) header_bytes g.size)

-- n is one more than the last non-empty position read, or 0. The gap is low - 16 - 8n bytes from 16 + 8n on.
unfoldable pub n : Room → ℕ
n r = length r.array

unfoldable pub gap : Room → ℕ
gap r = r.low - stands (n r)

-- Of a descriptor with a sector: an even offset, between 16 + 8n and S; tags and lengths as above.
unfoldable pub lies : Geometry → ℕ → Descriptor → Bool
lies g floor d = eqb (d.offset % 2) 0 && leb floor d.offset && leb (d.offset + size d) g.size && is_tagged d

unfoldable pub is_placed : Geometry → ℕ → Descriptor → Bool
is_placed g floor d = not (has_sector d) || lies g floor d

-- Sectors do not overlap: no two share a byte.
unfoldable pub disjoint : Descriptor → Descriptor → Bool
disjoint d e = eqb (size d) 0 || eqb (size e) 0 || leb (d.offset + size d) e.offset || leb (e.offset + size e) d.offset

unfoldable pub apart : Descriptor → Descriptor → Bool
apart d e = not (has_sector d) || not (has_sector e) || disjoint d e

unfoldable pub all_apart : List Descriptor → Bool
all_apart [] = true
all_apart (d ∷ ds) = elim (all (apart d) ds) [ true ↦ all_apart ds | false ↦ false ]

-- What bytes 4-15 of a settled home may be.
unfoldable pub is_header : Bytes → Bool
is_header u = erased (take 12 (drop 4 u))

-- In a home the gap is FF and every descriptor read is of a listed kind; sectors lie and do not overlap. Its header is asked beside it.
unfoldable pub is_home : Geometry → Bytes → Room → Bool
is_home g u r =
    erased (take (gap r) (drop (stands (n r)) u))
    && all is_listed r.array && all (is_placed g (stands (n r))) r.array && all_apart r.array
