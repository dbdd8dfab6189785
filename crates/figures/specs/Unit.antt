-- Document 01, "A unit", in figures.
use Rattle.std.specs.Prelude.{true, false, List, [], ◌∷◌, ◌++◌, map, ◌≡◌, refl, ℕ, replicate}
use Rattle.rules.specs.Flash.{Bytes}
use Rattle.rules.specs.Unit.{receiving, live, retired, stands, Descriptor, descriptor, blank, data_tag, mark_tag, transaction_tag, allocated, pending, current, old, void, n, gap, room_of, lower, lowest, is_header}
use Rattle.rules.specs.Unit.{is_empty, is_torn, is_allocated, is_pending, is_current, is_old, is_void, has_sector, is_listed, is_data, is_mark, is_transaction, file_of, is_tagged, size, is_open, is_committed, is_pending_file, is_current_file}
use Rattle.rules.specs.Settled.{physical}
use Rattle.rules.specs.Opened.{opened}
use Rattle.figures.specs.Make.{small, d, put, unit}

-- Bytes 0-1: logical number; bytes 2-3: state. Slip: the one for the other.
pub logical_and_state : (let p = physical 512 (1 ∷ 0 ∷ 0xFE ∷ 0xFF ∷ 7 ∷ 7 ∷ []) in p.base ∷ p.logical ∷ p.state ∷ []) ≡ (512 ∷ 1 ∷ 0xFFFE ∷ [])
unfolding opened
logical_and_state = refl

-- FFFF while receiving, FFFE live, FFFC retired. Slip: one for another.
pub unit_states : (receiving ∷ live ∷ retired ∷ []) ≡ (0xFFFF ∷ 0xFFFE ∷ 0xFFFC ∷ [])
unit_states = refl

-- Bytes 4-15 stay erased. Slip: from 5 or 6, to 14 or 16, or byte 3 too.
pub bytes_of_a_header : map (λ (a : ℕ). is_header (put a (0 ∷ []) (replicate 24 255))) (0 ∷ 3 ∷ 4 ∷ 5 ∷ 9 ∷ 14 ∷ 15 ∷ 16 ∷ 23 ∷ [])
    ≡ (true ∷ true ∷ false ∷ false ∷ false ∷ false ∷ false ∷ true ∷ true ∷ [])
unfolding opened
bytes_of_a_header = refl

-- From byte 16 upward stand descriptors of eight bytes. Slip: from 8 or 24, of another width.
pub descriptor_places : map stands (0 ∷ 1 ∷ 2 ∷ 61 ∷ []) ≡ (16 ∷ 24 ∷ 32 ∷ 504 ∷ [])
unfolding opened
descriptor_places = refl

-- A descriptor is four words: flags, offset, length, tag. Slip: two of them the other way round.
pub four_words_lem : descriptor (0xFC ∷ 0xFF ∷ 0x34 ∷ 0x01 ∷ 3 ∷ 0 ∷ 7 ∷ 0x10 ∷ 9 ∷ 9 ∷ []) ≡ d 0xFFFC 0x0134 3 0x1007
unfolding opened
four_words_lem = refl

-- Tags: 1000 hex + file for data, 2000 for a delete mark, 3000 for a transaction. Slip: one for another.
pub tags : (data_tag 0 ∷ data_tag 255 ∷ mark_tag 0 ∷ mark_tag 7 ∷ transaction_tag ∷ []) ≡ (0x1000 ∷ 0x10FF ∷ 0x2000 ∷ 0x2007 ∷ 0x3000 ∷ [])
unfolding opened
tags = refl

abbrev tagged : List Descriptor
tagged = map (d 0xFFFC 400 0) (0x0FFF ∷ 0x1000 ∷ 0x10FF ∷ 0x1100 ∷ 0x1FFF ∷ 0x2000 ∷ 0x20FF ∷ 0x2100 ∷ 0x3000 ∷ 0x3001 ∷ 0x30FF ∷ 0xFFFF ∷ [])

-- Files are 0 to 255, of data. Slip: to 254 or 256, or a mark taken for data.
pub data_tags : map is_data tagged ≡ (false ∷ true ∷ true ∷ false ∷ false ∷ false ∷ false ∷ false ∷ false ∷ false ∷ false ∷ false ∷ [])
unfolding opened
data_tags = refl

-- ... of delete marks. Slip: to 254 or 256, or data taken for a mark.
pub mark_tags : map is_mark tagged ≡ (false ∷ false ∷ false ∷ false ∷ false ∷ true ∷ true ∷ false ∷ false ∷ false ∷ false ∷ false ∷ [])
unfolding opened
mark_tags = refl

-- A transaction's tag is 3000 hex and no other. Slip: 3000 hex + file.
pub transaction_tags : map is_transaction tagged ≡ (false ∷ false ∷ false ∷ false ∷ false ∷ false ∷ false ∷ false ∷ true ∷ false ∷ false ∷ false ∷ [])
unfolding opened
transaction_tags = refl

-- The file of a tag. Slip: of seven bits, or with the kind.
pub files_of_tags : map file_of (map (d 0xFFFC 400 0) (0x1000 ∷ 0x1080 ∷ 0x10FF ∷ 0x2007 ∷ [])) ≡ (0 ∷ 128 ∷ 255 ∷ 7 ∷ [])
unfolding opened
files_of_tags = refl

-- Contents are 0 to 256 bytes. Slip: to 255 or 257.
pub data_lengths : map (λ (l : ℕ). is_tagged (d 0xFFF8 400 l 0x1007)) (0 ∷ 1 ∷ 255 ∷ 256 ∷ 257 ∷ 0xFFFF ∷ []) ≡ (true ∷ true ∷ true ∷ true ∷ false ∷ false ∷ [])
unfolding opened
data_lengths = refl

-- Delete marks and transactions have length 0. Slip: any length, or none of them asked.
pub other_lengths : (map (λ (l : ℕ). is_tagged (d 0xFFF8 400 l 0x2007)) (0 ∷ 1 ∷ 2 ∷ 256 ∷ []) ++ (map (λ (l : ℕ). is_tagged (d 0xFFF8 400 l 0x3000)) (0 ∷ 1 ∷ 2 ∷ 256 ∷ [])
    ++ map (λ (t : ℕ). is_tagged (d 0xFFF8 400 0 t)) (0 ∷ 0x0FFF ∷ 0x1100 ∷ 0x2100 ∷ 0x3001 ∷ 0xFFFF ∷ [])))
    ≡ (true ∷ false ∷ false ∷ false ∷ true ∷ false ∷ false ∷ false ∷ false ∷ false ∷ false ∷ false ∷ false ∷ false ∷ [])
unfolding opened
other_lengths = refl

-- A sector occupies its length rounded up to even. Slip: not rounded, rounded down, or one word more.
pub rounded_up : map (λ (l : ℕ). size (d 0xFFF8 400 l 0x1007)) (0 ∷ 1 ∷ 2 ∷ 3 ∷ 255 ∷ 256 ∷ []) ≡ (0 ∷ 2 ∷ 2 ∷ 4 ∷ 256 ∷ 256 ∷ [])
unfolding opened
rounded_up = refl

-- ---- the table of flags
abbrev kinds : List Descriptor
kinds =
    d 0xFFFF 0xFFFF 0xFFFF 0xFFFF ∷ d 0xFFFF 0xFFFF 0xFFFF 0x1007 ∷ d 0xFFFF 400 3 0x1007 ∷ d 0xFFFF 400 0xFFFF 0xFFFF ∷ d 0xFFFF 0xFFFF 3 0xFFFF
    ∷ d 0xFFFE 400 3 0x1007 ∷ d 0xFFFC 400 3 0x1007 ∷ d 0xFFF8 400 3 0x1007 ∷ d 0xFFF0 400 3 0x1007 ∷ d 0x0000 400 3 0x1007
    ∷ d 0xFFFD 400 3 0x1007 ∷ d 0xFFE0 400 3 0x1007 ∷ d 0xFFFA 400 3 0x1007 ∷ d 0x0001 400 3 0x1007 ∷ []

-- FFFF, all four words FFFF: empty. Slip: a word not asked.
pub empty_ones : map is_empty kinds ≡ (true ∷ false ∷ false ∷ false ∷ false ∷ false ∷ false ∷ false ∷ false ∷ false ∷ false ∷ false ∷ false ∷ false ∷ [])
unfolding opened
empty_ones = refl

-- FFFF, tag not FFFF: torn. Slip: any word not FFFF, or the flags not asked.
pub torn_ones : map is_torn kinds ≡ (false ∷ true ∷ true ∷ false ∷ false ∷ false ∷ false ∷ false ∷ false ∷ false ∷ false ∷ false ∷ false ∷ false ∷ [])
unfolding opened
torn_ones = refl

-- The flags' values. Slip: one for another.
pub flag_values : (allocated ∷ pending ∷ current ∷ old ∷ void ∷ []) ≡ (0xFFFE ∷ 0xFFFC ∷ 0xFFF8 ∷ 0xFFF0 ∷ 0 ∷ [])
flag_values = refl

-- FFFE: allocated. Slip: pending for it.
pub allocated_ones : map is_allocated kinds ≡ (false ∷ false ∷ false ∷ false ∷ false ∷ true ∷ false ∷ false ∷ false ∷ false ∷ false ∷ false ∷ false ∷ false ∷ [])
unfolding opened
allocated_ones = refl

-- FFFC: pending. Slip: allocated too.
pub pending_ones : map is_pending kinds ≡ (false ∷ false ∷ false ∷ false ∷ false ∷ false ∷ true ∷ false ∷ false ∷ false ∷ false ∷ false ∷ false ∷ false ∷ [])
unfolding opened
pending_ones = refl

-- FFF8: current. Slip: old too.
pub current_ones : map is_current kinds ≡ (false ∷ false ∷ false ∷ false ∷ false ∷ false ∷ false ∷ true ∷ false ∷ false ∷ false ∷ false ∷ false ∷ false ∷ [])
unfolding opened
current_ones = refl

-- FFF0: old. Slip: void too.
pub old_ones : map is_old kinds ≡ (false ∷ false ∷ false ∷ false ∷ false ∷ false ∷ false ∷ false ∷ true ∷ false ∷ false ∷ false ∷ false ∷ false ∷ [])
unfolding opened
old_ones = refl

-- 0000: void. Slip: other flags too.
pub void_ones : map is_void kinds ≡ (false ∷ false ∷ false ∷ false ∷ false ∷ false ∷ false ∷ false ∷ false ∷ true ∷ false ∷ false ∷ false ∷ false ∷ [])
unfolding opened
void_ones = refl

-- Allocated, pending, current and old ones have a sector; empty, torn and void ones have none. Slip: one of them left out, or void let in.
pub sector_ones : map has_sector kinds ≡ (false ∷ false ∷ false ∷ false ∷ false ∷ true ∷ true ∷ true ∷ true ∷ false ∷ false ∷ false ∷ false ∷ false ∷ [])
unfolding opened
sector_ones = refl

-- The listed kinds. Slip: void or torn left out, or any flags let in.
pub listed_ones : map is_listed kinds ≡ (true ∷ true ∷ true ∷ false ∷ false ∷ true ∷ true ∷ true ∷ true ∷ true ∷ false ∷ false ∷ false ∷ false ∷ [])
unfolding opened
listed_ones = refl

abbrev turned : List Descriptor
turned =
    d 0xFFFC 400 0 0x3000 ∷ d 0xFFFC 400 0 0x1007 ∷ d 0xFFFC 400 0 0x2007 ∷ d 0xFFF8 400 0 0x3000 ∷ d 0xFFF8 400 0 0x1007 ∷ d 0xFFF8 400 0 0x2007
    ∷ d 0xFFFE 400 0 0x3000 ∷ d 0xFFF0 400 0 0x3000 ∷ []

-- FFFC: pending; for a transaction, open. Slip: allocated or committed taken for open, a file's too.
pub open_ones : map is_open turned ≡ (true ∷ false ∷ false ∷ false ∷ false ∷ false ∷ false ∷ false ∷ [])
unfolding opened
open_ones = refl

-- Pending data and delete marks. Slip: marks left out, the transaction let in.
pub pending_files : map is_pending_file turned ≡ (false ∷ true ∷ true ∷ false ∷ false ∷ false ∷ false ∷ false ∷ [])
unfolding opened
pending_files = refl

-- FFF8: current; for a transaction, committed. Slip: open taken for committed.
pub committed_ones : map is_committed turned ≡ (false ∷ false ∷ false ∷ true ∷ false ∷ false ∷ false ∷ false ∷ [])
unfolding opened
committed_ones = refl

-- Of a file: what is current, data or, wrongly, a mark. Slip: the transaction too.
pub current_files : map is_current_file turned ≡ (false ∷ false ∷ false ∷ false ∷ true ∷ true ∷ false ∷ false ∷ [])
unfolding opened
current_files = refl

-- ---- the array
abbrev measured : Bytes → List ℕ
measured u = let r = room_of small u in n r ∷ r.low ∷ gap r ∷ []

-- Reading ends at the first position whose eight bytes would pass the lowest offset seen so far: with a sector at 32 the position that
-- ends there is read, the next is not. Slip: one position more or less.
pub reading_ends : map measured
    (unit 0 live (0xFFF8 ∷ 32 ∷ 256 ∷ 0x1001 ∷ 0xFFF8 ∷ 32 ∷ 0 ∷ 0x1002 ∷ 0xFFF8 ∷ 300 ∷ 2 ∷ 0x1003 ∷ [])
    ∷ unit 0 live (0xFFF8 ∷ 34 ∷ 256 ∷ 0x1001 ∷ 0xFFF8 ∷ 34 ∷ 0 ∷ 0x1002 ∷ 0xFFF8 ∷ 300 ∷ 2 ∷ 0x1003 ∷ [])
    ∷ unit 0 live (0xFFF8 ∷ 30 ∷ 256 ∷ 0x1001 ∷ 0xFFF8 ∷ 300 ∷ 0 ∷ 0x1002 ∷ []) ∷ [])
    ≡ ((2 ∷ 32 ∷ 0 ∷ []) ∷ (2 ∷ 34 ∷ 2 ∷ []) ∷ (1 ∷ 30 ∷ 6 ∷ []) ∷ [])
unfolding opened
reading_ends = refl

-- The array is read upward from position 0. Slip: downward, or from position 1.
pub read_upward : (room_of small (unit 0 live (0xFFF8 ∷ 500 ∷ 12 ∷ 0x1001 ∷ 0xFFF0 ∷ 490 ∷ 9 ∷ 0x1002 ∷ []))).array ≡ (d 0xFFF8 500 12 0x1001 ∷ d 0xFFF0 490 9 0x1002 ∷ [])
unfolding opened
read_upward = refl

-- S at first: the last position ends at S. Slip: S - 8 at first, or all positions but the last.
pub up_to_the_top : map measured (unit 0 live [] ∷ put 504 (0 ∷ 0 ∷ 0 ∷ 0 ∷ 0 ∷ 0 ∷ 0 ∷ 0 ∷ []) (unit 0 live []) ∷ [])
    ≡ ((0 ∷ 512 ∷ 496 ∷ []) ∷ (62 ∷ 512 ∷ 0 ∷ []) ∷ [])
unfolding opened
up_to_the_top = refl

-- Empty, torn and void ones have no offset. Slip: a torn or a void one's offset counts.
pub without_offset : map (lower 512) kinds ≡ (512 ∷ 512 ∷ 512 ∷ 512 ∷ 512 ∷ 400 ∷ 400 ∷ 400 ∷ 400 ∷ 512 ∷ 512 ∷ 512 ∷ 512 ∷ 512 ∷ [])
unfolding opened
without_offset = refl

-- The lower of two offsets. Slip: the later one.
pub lower_one : map (λ (o : ℕ). lower 400 (d 0xFFF8 o 2 0x1001)) (398 ∷ 400 ∷ 402 ∷ []) ≡ (398 ∷ 400 ∷ 400 ∷ [])
unfolding opened
lower_one = refl

-- n is one more than the last non-empty position read, or 0. Slip: the number of the non-empty ones, or up to the first empty one.
pub last_non_empty : map measured
    (unit 0 live (0xFFF8 ∷ 500 ∷ 12 ∷ 0x1001 ∷ 0xFFFF ∷ 0xFFFF ∷ 0xFFFF ∷ 0xFFFF ∷ 0xFFFF ∷ 490 ∷ 9 ∷ 0x1002 ∷ 0xFFFF ∷ 0xFFFF ∷ 0xFFFF ∷ 0xFFFF ∷ [])
    ∷ unit 0 live (0 ∷ 500 ∷ 12 ∷ 0x1001 ∷ [])
    ∷ unit 0 live (0xFFFF ∷ 0xFFFF ∷ 0xFFFF ∷ 0xFFFF ∷ 0xFFFF ∷ 0xFFFF ∷ 2 ∷ 0xFFFF ∷ []) ∷ [])
    ≡ ((3 ∷ 500 ∷ 460 ∷ []) ∷ (1 ∷ 512 ∷ 488 ∷ []) ∷ (2 ∷ 512 ∷ 480 ∷ []) ∷ [])
unfolding opened
last_non_empty = refl

-- Low is that lowest offset. Slip: the last one, the first one, the greatest.
pub lowest_offset : (lowest 512 (d 0xFFF8 400 2 0x1001 ∷ d 0xFFF0 300 2 0x1001 ∷ d 0xFFFC 350 2 0x1001 ∷ [])
    ∷ (room_of small (unit 0 live (0xFFF8 ∷ 400 ∷ 2 ∷ 0x1001 ∷ 0xFFF0 ∷ 300 ∷ 2 ∷ 0x1001 ∷ 0xFFFC ∷ 350 ∷ 2 ∷ 0x1002 ∷ []))).low ∷ [])
    ≡ (300 ∷ 300 ∷ [])
unfolding opened
lowest_offset = refl

-- The gap is low - 16 - 8n bytes. Slip: without the header, or one descriptor more.
pub gaps : (gap (record { array = blank ∷ blank ∷ d 0 0 0 0 ∷ []; low = 100 }) ∷ gap (record { array = []; low = 512 }) ∷ gap (record { array = blank ∷ []; low = 24 }) ∷ [])
    ≡ (60 ∷ 496 ∷ 0 ∷ [])
unfolding opened
gaps = refl
