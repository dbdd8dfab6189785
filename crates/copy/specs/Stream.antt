-- What the copy of a unit must hold, word by word, without building it.
use Rattle.std.specs.Prelude.{Bool, true, false, not, cond, ◌&&◌, ◌||◌, Option, Some, None, ℕ, zero, suc, ◌+◌, ◌-◌, ◌/◌, ◌%◌, length, take, drop, leb, eqb}
use Rattle.rules.specs.Flash.{Bytes, word, erased}
use Rattle.rules.specs.Unit.{Descriptor, stands, size, is_empty}
use Rattle.rules.specs.Copy.{is_kept}
use Rattle.laws.specs.Complete.{is_plain}
use Rattle.laws.specs.Copies.{moved}
use Rattle.unit.specs.Shapes.{descriptor_at, room_of}

-- w stands where the copy has v: the same, or, while the copy is being made, FFFF
unfoldable pub holds : Bool → ℕ → ℕ → Bool
holds whole v w = eqb w v || (not whole && eqb w 0xFFFF)

-- k words
unfoldable pub agree : Bool → ℕ → Bytes → Bytes → Bool
agree whole zero a b = true
agree whole (suc k) a b = elim (holds whole (word a 0) (word b 0)) [ true ↦ agree whole k (drop 2 a) (drop 2 b) | false ↦ false ]

-- the sector can be copied, below low and above floor
unfoldable pub movable : Descriptor → ℕ → ℕ → ℕ → Bool
movable d top floor low = leb d.len 256 && eqb (d.offset % 2) 0 && leb (d.offset + size d) top && leb (floor + size d) low

-- e stands where the copy has d
unfoldable pub same_four : Bool → Descriptor → Descriptor → Bool
same_four whole d e = holds whole d.flags e.flags && holds whole d.offset e.offset && holds whole d.len e.len && holds whole d.tag e.tag

-- the descriptor d, packed below low, and its sector's words
unfoldable pub kept_there : Bool → Bytes → Bytes → ℕ → ℕ → Descriptor → Descriptor → Bool
kept_there whole src dst floor low d e =
    let o = low - size d in
    movable d (length src) floor low && same_four whole (moved o d) e && agree whole (size d / 2) (drop d.offset src) (drop o dst)

-- one position, packed below low: the lowest offset then, if the copy stands
unfoldable pub placed : Bool → Bytes → Bytes → ℕ → ℕ → Descriptor → Descriptor → Option ℕ
placed whole src dst floor low d e =
    cond (is_kept d) (cond (kept_there whole src dst floor low d e) (Some (low - size d)) None) (cond (is_empty e) (Some low) None)

-- the copy stands there, and so does the rest from there on
unfoldable pub past : Option ℕ → (ℕ → Bool) → Bool
past (Some o) rest = rest o
past None rest = false

-- the k positions from p on, then the gap
unfoldable pub copy_from : Bool → Bytes → Bytes → ℕ → ℕ → ℕ → ℕ → Bool
copy_from whole src dst floor zero p low = erased (take (low - floor) (drop floor dst))
copy_from whole src dst floor (suc k) p low =
    past (placed whole src dst floor low (descriptor_at src (stands p)) (descriptor_at dst (stands p))) (copy_from whole src dst floor k (p + 1))

-- dst is the copy of src from byte 4 on: complete, or being made
unfoldable pub is_copy : Bool → Bytes → Bytes → Bool
is_copy whole src dst =
    let n = (room_of (length src) src).n in
    is_plain dst && copy_from whole src dst (stands n) n 0 (length src)
