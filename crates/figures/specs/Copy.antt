-- Document 01, the copy that a reclaim makes, in figures.
use Rattle.std.specs.Prelude.{true, false, List, [], ◌∷◌, ◌++◌, map, ◌≡◌, refl, ℕ}
use Rattle.rules.specs.Flash.{program}
use Rattle.rules.specs.Unit.{live, Descriptor}
use Rattle.rules.specs.Copy.{is_kept, packed, fill, copy_of, is_copyable, is_movable, kept_size}
use Rattle.rules.specs.Sound.{is_complete}
use Rattle.rules.specs.Opened.{opened}
use Rattle.figures.specs.Make.{small, d, put, blank_unit, unit, home, copied}

abbrev kinds : List Descriptor
kinds = map (λ (f : ℕ). d f 400 3 0x1007) (0xFFFF ∷ 0xFFFE ∷ 0xFFFC ∷ 0xFFF8 ∷ 0xFFF0 ∷ 0 ∷ [])

-- Copy pending and current sectors, the open transaction too. Slip: old or allocated ones too, the transaction left out, current ones alone.
pub kept_ones : (map is_kept kinds ++ map is_kept (d 0xFFFC 512 0 0x3000 ∷ d 0xFFF8 512 0 0x3000 ∷ d 0xFFFC 512 0 0x2007 ∷ d 0xFFF0 512 0 0x3000 ∷ []))
    ≡ (false ∷ false ∷ true ∷ true ∷ false ∷ false ∷ true ∷ true ∷ true ∷ false ∷ [])
unfolding opened
kept_ones = refl

abbrev before : List Descriptor
before = d 0xFFF0 508 3 0x1001 ∷ d 0xFFFC 508 0 0x3000 ∷ d 0xFFF8 500 3 0x1007 ∷ d 0 400 9 0x1001 ∷ d 0xFFFC 300 10 0x1009 ∷ d 0xFFFE 290 4 0x1003 ∷ []

-- Positions kept, packed from the top down; other positions become empty. Slip: positions closed up, packed from below, offsets as they were, lengths not rounded up.
pub packed_down : packed 512 before
    ≡ (d 0xFFFF 0xFFFF 0xFFFF 0xFFFF ∷ d 0xFFFC 512 0 0x3000 ∷ d 0xFFF8 508 3 0x1007 ∷ d 0xFFFF 0xFFFF 0xFFFF 0xFFFF ∷ d 0xFFFC 498 10 0x1009 ∷ d 0xFFFF 0xFFFF 0xFFFF 0xFFFF ∷ [])
unfolding opened
packed_down = refl

-- Program L into the spare; then each as flags, offset, length, tag, then data, ascending. Slip: data first, tag first, descending, without L.
pub copied_in_order : fill small 1024 1 home
    ≡ (program 1024 1
    ∷ program 1048 0xFFFC ∷ program 1050 512 ∷ program 1052 0 ∷ program 1054 0x3000
    ∷ program 1056 0xFFF8 ∷ program 1058 508 ∷ program 1060 3 ∷ program 1062 0x1007 ∷ program 1532 0x6261 ∷ program 1534 0x2A63
    ∷ program 1064 0xFFFC ∷ program 1066 506 ∷ program 1068 2 ∷ program 1070 0x1009 ∷ program 1530 0x6564 ∷ [])
unfolding opened
copied_in_order = refl

-- The copy's value. Slip: live at once, without its number, the old sectors too.
pub whole_copy : copy_of small 1 home ≡ copied
unfolding opened
whole_copy = refl

-- The copy is complete: every byte from 4 on, its header erased; its state is free. Slip: part of it, or a descriptor's word missing, its header free, or the end of that.
pub complete_copies : map (is_complete small 1 home) (copied ∷ put 2 (0xFE ∷ []) copied ∷ put 24 (255 ∷ 255 ∷ []) copied ∷ put 510 (255 ∷ 255 ∷ []) copied ∷ put 4 (0 ∷ []) copied ∷ put 15 (0 ∷ []) copied ∷ put 100 (0 ∷ []) copied ∷ blank_unit ∷ [])
    ≡ (true ∷ true ∷ false ∷ false ∷ false ∷ false ∷ false ∷ false ∷ [])
unfolding opened
complete_copies = refl

-- What has no copy has no complete one: its sector is at an odd offset. Slip: any bytes that are alike.
pub no_complete_copy : (let from = unit 0 live (0xFFF8 ∷ 257 ∷ 2 ∷ 0x1001 ∷ []) in is_complete small 0 from (copy_of small 0 from)) ≡ false
unfolding opened
no_complete_copy = refl

-- What can be copied: of at most 256 bytes, even, inside the unit; asked of what is kept alone. Slip: `<` for `<=`, odd offsets, asked of old ones.
pub movable_ones : map (is_movable small)
    (d 0xFFF8 256 256 0x1007 ∷ d 0xFFF8 100 257 0x1007 ∷ d 0xFFFC 101 2 0x1007 ∷ d 0xFFF8 510 2 0x1007 ∷ d 0xFFF8 510 3 0x1007 ∷ d 0xFFF8 512 0 0x1007 ∷ d 0xFFF0 101 999 0x1007 ∷ d 0xFFFE 101 999 0x1007 ∷ [])
    ≡ (true ∷ false ∷ false ∷ true ∷ false ∷ true ∷ true ∷ true ∷ [])
unfolding opened
movable_ones = refl

-- What the kept sectors occupy. Slip: old ones counted too, lengths not rounded up.
pub kept_sizes : kept_size before ≡ 14
unfolding opened
kept_sizes = refl

-- ... and all of it fits above the array. Slip: `<` for `<=`, the array not counted.
pub fitting_copies : map (is_copyable small)
    (home ∷ unit 0 live (0xFFF8 ∷ 256 ∷ 256 ∷ 0x1001 ∷ 0xFFF8 ∷ 256 ∷ 216 ∷ 0x1002 ∷ 0 ∷ 0 ∷ 0 ∷ 0 ∷ []) ∷ unit 0 live (0xFFF8 ∷ 256 ∷ 256 ∷ 0x1001 ∷ 0xFFF8 ∷ 256 ∷ 217 ∷ 0x1002 ∷ 0 ∷ 0 ∷ 0 ∷ 0 ∷ [])
    ∷ unit 0 live (0xFFF8 ∷ 257 ∷ 2 ∷ 0x1001 ∷ []) ∷ unit 0 live (0xFFF0 ∷ 256 ∷ 256 ∷ 0x1001 ∷ 0xFFF0 ∷ 256 ∷ 256 ∷ 0x1002 ∷ []) ∷ [])
    ≡ (true ∷ true ∷ false ∷ false ∷ true ∷ [])
unfolding opened
fitting_copies = refl
