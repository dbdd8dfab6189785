-- Document 01, the refusals of each call in the order of the table, and what each gives, in figures.
use Rattle.std.specs.Prelude.{List, [], ◌∷◌, ◌++◌, map, ◌≡◌, refl, ℕ, replicate}
use Rattle.rules.specs.Flash.{Bytes}
use Rattle.rules.specs.Unit.{live}
use Rattle.rules.specs.Answers.{number, given, content}
use Rattle.rules.specs.Calls.{Call, format, mount, begin, commit, abort, write, delete, read, read_open, read_at, under, outcome}
use Rattle.rules.specs.Opened.{opened}
use Rattle.rules.specs.declared.Rule.TheVariants.{Tightest, Lowest}
use Rattle.figures.specs.Make.{small, put, blank_unit, unit, three, plenty, fields}

-- ---- each call, in the order of the table
abbrev number_on : Bytes → Call → ℕ
number_on s c = number (outcome small c s).answer

abbrev long : Bytes
long = replicate 257 0

abbrev calls : List Call
calls =
    mount plenty ∷ begin Tightest plenty ∷ commit plenty ∷ abort plenty ∷ write Tightest 256 long plenty ∷ write Tightest 255 long plenty ∷ write Tightest 255 (replicate 256 0) plenty ∷ delete Tightest 256 plenty ∷ delete Tightest 255 plenty ∷ delete Tightest 7 plenty
    ∷ read 256 ∷ read 255 ∷ read 7 ∷ read_open 256 ∷ read_open 255 ∷ read_open 7 ∷ read_at 9 9 ∷ read_at 0 0 ∷ []

-- File 7 committed in unit 0 at 0:0; a unit full of file 8 and old bytes; then as the row says.
abbrev store : List ℕ → Bytes
store ds = three (put 508 (0x61 ∷ 0x62 ∷ 0x63 ∷ 0xFF ∷ []) (unit 0 live (0xFFF8 ∷ 508 ∷ 3 ∷ 0x1007 ∷ ds))) (unit 1 live (0xFFF8 ∷ 256 ∷ 256 ∷ 0x1008 ∷ 0xFFF0 ∷ 32 ∷ 224 ∷ 0x1009 ∷ [])) blank_unit

-- 2 BAD GEOMETRY: first, of every call. Slip: later, or not of one of them.
pub first_geometry : map (λ (c : Call). number (outcome (record { size = 512; units = 2 }) c (replicate 1024 0)).answer) (format plenty ∷ calls)
    ≡ (2 ∷ 2 ∷ 2 ∷ 2 ∷ 2 ∷ 2 ∷ 2 ∷ 2 ∷ 2 ∷ 2 ∷ 2 ∷ 2 ∷ 2 ∷ 2 ∷ 2 ∷ 2 ∷ 2 ∷ 2 ∷ 2 ∷ [])
unfolding opened
first_geometry = refl

-- 3 BAD IMAGE: not sound; 2nd; format does not ask. Slip: later, or a format refused.
pub second_image : map (number_on (replicate 1536 0)) (format plenty ∷ format 0 ∷ calls)
    ≡ (0 ∷ 1 ∷ 3 ∷ 3 ∷ 3 ∷ 3 ∷ 3 ∷ 3 ∷ 3 ∷ 3 ∷ 3 ∷ 3 ∷ 3 ∷ 3 ∷ 3 ∷ 3 ∷ 3 ∷ 3 ∷ 3 ∷ 3 ∷ [])
unfolding opened
second_image = refl

-- 4 UNSETTLED: sound, not settled; 3rd; mount does not ask. Slip: later, or a mount refused.
pub third_unsettled : map (number_on (store (0xFFFF ∷ 0xFFFF ∷ 0xFFFF ∷ 0x1007 ∷ []))) (mount 0 ∷ calls)
    ≡ (1 ∷ 0 ∷ 4 ∷ 4 ∷ 4 ∷ 4 ∷ 4 ∷ 4 ∷ 4 ∷ 4 ∷ 4 ∷ 4 ∷ 4 ∷ 4 ∷ 4 ∷ 4 ∷ 4 ∷ 4 ∷ 4 ∷ [])
unfolding opened
third_unsettled = refl

-- 5 BAD FILE, 6 TOO LONG, 7 NO TRANSACTION: write, delete, commit, abort or transaction view with none open; 4th, 5th, 6th. Slip: in another order, or one not asked.
pub none_open_numbers : map (number_on (store [])) calls
    ≡ (0 ∷ 0 ∷ 7 ∷ 7 ∷ 5 ∷ 6 ∷ 7 ∷ 5 ∷ 7 ∷ 7 ∷ 5 ∷ 9 ∷ 0 ∷ 5 ∷ 7 ∷ 7 ∷ 11 ∷ 0 ∷ [])
unfolding opened
none_open_numbers = refl

-- 8 OPEN: begin with one open. 9 ABSENT: read or delete, not in the view; 7th. Slip: one not asked, or the other view.
pub open_numbers : map (number_on (store (0xFFFC ∷ 508 ∷ 0 ∷ 0x3000 ∷ []))) calls
    ≡ (0 ∷ 8 ∷ 0 ∷ 0 ∷ 5 ∷ 6 ∷ 0 ∷ 5 ∷ 9 ∷ 0 ∷ 5 ∷ 9 ∷ 0 ∷ 5 ∷ 9 ∷ 0 ∷ 11 ∷ 0 ∷ [])
unfolding opened
open_numbers = refl

-- Delete looks in the transaction view: file 7 is deleted there, file 9 is there alone. Slip: in the committed view. Reads look in their own.
pub views_of_calls : map (number_on (store (0xFFFC ∷ 508 ∷ 0 ∷ 0x3000 ∷ 0xFFFC ∷ 508 ∷ 0 ∷ 0x2007 ∷ 0xFFFC ∷ 506 ∷ 2 ∷ 0x1009 ∷ []))) (delete Tightest 7 plenty ∷ delete Tightest 9 plenty ∷ read 7 ∷ read 9 ∷ read_open 7 ∷ read_open 9 ∷ [])
    ≡ (9 ∷ 0 ∷ 0 ∷ 9 ∷ 9 ∷ 0 ∷ [])
unfolding opened
views_of_calls = refl

-- Both units full: files of 256 and 216 bytes, and an open transaction.
abbrev full : Bytes
full = three (unit 0 live (0xFFF8 ∷ 256 ∷ 256 ∷ 0x1001 ∷ 0xFFF8 ∷ 40 ∷ 216 ∷ 0x1002 ∷ 0xFFFC ∷ 40 ∷ 0 ∷ 0x3000 ∷ [])) (unit 1 live (0xFFF8 ∷ 256 ∷ 256 ∷ 0x1003 ∷ 0xFFF8 ∷ 32 ∷ 224 ∷ 0x1004 ∷ [])) blank_unit

-- 10 NO ROOM: 8th, after 9 and 8; 1 STOPPED: last. Slip: before them, or STOPPED before NO ROOM.
pub no_room_numbers : (map (number_on full) (write Tightest 7 [] 0 ∷ write Tightest 7 [] plenty ∷ write Tightest 256 [] plenty ∷ write Tightest 7 long plenty ∷ delete Tightest 7 0 ∷ delete Tightest 1 0 ∷ begin Tightest 0 ∷ commit 0 ∷ commit plenty ∷ abort 0 ∷ [])
    ++ map (number_on (store (0xFFFC ∷ 508 ∷ 0 ∷ 0x3000 ∷ []))) (write Tightest 7 [] 0 ∷ delete Tightest 7 0 ∷ delete Tightest 9 0 ∷ begin Tightest 0 ∷ commit 0 ∷ abort 0 ∷ mount 0 ∷ []))
    ≡ (10 ∷ 10 ∷ 5 ∷ 6 ∷ 9 ∷ 10 ∷ 8 ∷ 1 ∷ 0 ∷ 1 ∷ 1 ∷ 1 ∷ 9 ∷ 8 ∷ 1 ∷ 1 ∷ 1 ∷ [])
unfolding opened
no_room_numbers = refl

-- Current file 7, an old one, a pending one, an open transaction, an empty position, current file 9.
abbrev handled : Bytes
handled = store (0xFFF0 ∷ 508 ∷ 0 ∷ 0x1005 ∷ 0xFFFC ∷ 508 ∷ 0 ∷ 0x1006 ∷ 0xFFFC ∷ 508 ∷ 0 ∷ 0x3000 ∷ 0xFFFF ∷ 0xFFFF ∷ 0xFFFF ∷ 0xFFFF ∷ 0xFFF8 ∷ 508 ∷ 0 ∷ 0x1009 ∷ [])

-- 11 BAD HANDLE: logical unit over U-2, position not below n, or not current data. Slip: U-1 let in, position n, old, pending or transaction shown.
pub handle_numbers : map (number_on handled) (read_at 0 0 ∷ read_at 0 1 ∷ read_at 0 2 ∷ read_at 0 3 ∷ read_at 0 4 ∷ read_at 0 5 ∷ read_at 0 6 ∷ read_at 1 0 ∷ read_at 1 1 ∷ read_at 1 2 ∷ read_at 2 0 ∷ read_at 3 0 ∷ [])
    ≡ (0 ∷ 11 ∷ 11 ∷ 11 ∷ 11 ∷ 0 ∷ 11 ∷ 0 ∷ 11 ∷ 11 ∷ 11 ∷ 11 ∷ [])
unfolding opened
handle_numbers = refl

abbrev answered : Bytes → Call → List ℕ
answered s c = fields (given (outcome small c s).answer)

-- A DONE write, delete, begin or read by file gives a handle, all else 0:0; a handle read gives the file. Slip: a handle left out, a file given elsewhere.
pub handles_given : (map (answered handled) (write Tightest 7 (1 ∷ 2 ∷ []) plenty ∷ delete Tightest 9 plenty ∷ read 7 ∷ read_open 7 ∷ read_open 6 ∷ read_at 0 0 ∷ read_at 0 5 ∷ read_at 1 0 ∷ commit plenty ∷ abort plenty ∷ mount plenty ∷ format plenty ∷ []) ++ map (answered (store [])) (begin Tightest plenty ∷ begin Tightest 3 ∷ []))
    ≡ ((6 ∷ 0 ∷ 4 ∷ 0 ∷ 0 ∷ 0 ∷ []) ∷ (5 ∷ 0 ∷ 4 ∷ 0 ∷ 0 ∷ 0 ∷ []) ∷ (0 ∷ 0 ∷ 0 ∷ 0 ∷ 508 ∷ 3 ∷ []) ∷ (0 ∷ 0 ∷ 0 ∷ 0 ∷ 508 ∷ 3 ∷ []) ∷ (0 ∷ 0 ∷ 2 ∷ 0 ∷ 0 ∷ 0 ∷ [])
    ∷ (0 ∷ 0 ∷ 0 ∷ 7 ∷ 508 ∷ 3 ∷ []) ∷ (0 ∷ 0 ∷ 0 ∷ 9 ∷ 0 ∷ 0 ∷ []) ∷ (0 ∷ 0 ∷ 0 ∷ 8 ∷ 768 ∷ 256 ∷ [])
    ∷ (3 ∷ 0 ∷ 0 ∷ 0 ∷ 0 ∷ 0 ∷ []) ∷ (2 ∷ 0 ∷ 0 ∷ 0 ∷ 0 ∷ 0 ∷ []) ∷ (2 ∷ 0 ∷ 0 ∷ 0 ∷ 0 ∷ 0 ∷ []) ∷ (6 ∷ 0 ∷ 0 ∷ 0 ∷ 0 ∷ 0 ∷ [])
    ∷ (5 ∷ 0 ∷ 1 ∷ 0 ∷ 0 ∷ 0 ∷ []) ∷ (3 ∷ 0 ∷ 0 ∷ 0 ∷ 0 ∷ 0 ∷ []) ∷ [])
unfolding opened
handles_given = refl

-- The handle's logical unit is that of the new or read descriptor. Slip: always 0, or the physical unit.
pub handles_in_unit_1 : map (answered (three blank_unit (unit 0 live (0xFFF8 ∷ 256 ∷ 256 ∷ 0x1001 ∷ 0xFFF8 ∷ 40 ∷ 216 ∷ 0x1002 ∷ [])) (unit 1 live (0xFFF8 ∷ 510 ∷ 2 ∷ 0x1007 ∷ 0xFFFC ∷ 510 ∷ 0 ∷ 0x3000 ∷ []))))
    (write Tightest 3 (replicate 100 255) plenty ∷ delete Tightest 7 plenty ∷ read 7 ∷ read_open 2 ∷ read_at 1 0 ∷ [])
    ≡ ((5 ∷ 1 ∷ 2 ∷ 0 ∷ 0 ∷ 0 ∷ []) ∷ (5 ∷ 0 ∷ 2 ∷ 0 ∷ 0 ∷ 0 ∷ []) ∷ (0 ∷ 1 ∷ 0 ∷ 0 ∷ 1534 ∷ 2 ∷ []) ∷ (0 ∷ 0 ∷ 1 ∷ 0 ∷ 552 ∷ 216 ∷ []) ∷ (0 ∷ 0 ∷ 0 ∷ 7 ∷ 1534 ∷ 2 ∷ []) ∷ [])
unfolding opened
handles_in_unit_1 = refl

-- A read returns the content as that part of the image where the sector's bytes stand. Slip: another part, rounded up.
pub contents_read : map (λ (c : Call). content (outcome small c handled)) (read 7 ∷ read_at 0 0 ∷ read_open 7 ∷ read_open 6 ∷ read 6 ∷ commit plenty ∷ [])
    ≡ ((0x61 ∷ 0x62 ∷ 0x63 ∷ []) ∷ (0x61 ∷ 0x62 ∷ 0x63 ∷ []) ∷ (0x61 ∷ 0x62 ∷ 0x63 ∷ []) ∷ [] ∷ [] ∷ [] ∷ [])
unfolding opened
contents_read = refl

-- ---- the rule of a call
-- The same call under a rule: begin, write and delete take it, no other has one. Slip: one that keeps its own, another input changed.
pub calls_under : map (under Lowest) (format 1 ∷ mount 2 ∷ begin Tightest 3 ∷ commit 4 ∷ abort 5 ∷ write Tightest 6 (7 ∷ []) 8 ∷ delete Tightest 9 10 ∷ read 11 ∷ read_open 12 ∷ read_at 13 14 ∷ begin Lowest 15 ∷ [])
    ≡ (format 1 ∷ mount 2 ∷ begin Lowest 3 ∷ commit 4 ∷ abort 5 ∷ write Lowest 6 (7 ∷ []) 8 ∷ delete Lowest 9 10 ∷ read 11 ∷ read_open 12 ∷ read_at 13 14 ∷ begin Lowest 15 ∷ [])
unfolding opened
calls_under = refl

-- Unit 1 has file 7 and what the row says, and so the smaller gap; unit 0 is empty.
abbrev uneven : List ℕ → Bytes
uneven ds = three (unit 0 live []) (unit 1 live (0xFFF8 ∷ 510 ∷ 2 ∷ 0x1007 ∷ ds)) blank_unit

abbrev place_of : Bytes → Call → List ℕ
place_of s c = let h = (given (outcome small c s).answer).at in h.unit ∷ h.position ∷ []

-- Begin, write and delete each place by the rule that the call has. Slip: one that goes by the other rule, or by the default.
pub rules_of_calls : (map (place_of (uneven [])) (begin Tightest plenty ∷ begin Lowest plenty ∷ [])
    ++ map (place_of (uneven (0xFFFC ∷ 510 ∷ 0 ∷ 0x3000 ∷ []))) (write Tightest 9 [] plenty ∷ write Lowest 9 [] plenty ∷ delete Tightest 7 plenty ∷ delete Lowest 7 plenty ∷ []))
    ≡ ((1 ∷ 1 ∷ []) ∷ (0 ∷ 0 ∷ []) ∷ (1 ∷ 2 ∷ []) ∷ (0 ∷ 0 ∷ []) ∷ (1 ∷ 2 ∷ []) ∷ (0 ∷ 0 ∷ []) ∷ [])
unfolding opened
rules_of_calls = refl
