-- Document 01, "Settled", in figures.
use Rattle.std.specs.Prelude.{Bool, true, false, List, [], ◌∷◌, ◌++◌, map, ◌≡◌, refl, ℕ}
use Rattle.rules.specs.Flash.{Bytes}
use Rattle.rules.specs.Unit.{receiving, live, retired, Descriptor, room_of, lies, is_placed, disjoint, apart, all_apart, is_home, is_pending_file}
use Rattle.rules.specs.Settled.{Physical, Home, Entry, Counts, physical, homes_for, one_each, is_spare, is_still, has_header, is_housed, content_in, pairs, is_current_ok, counts, is_beside, is_quiet, select, of_file}
use Rattle.rules.specs.Opened.{opened}
use Rattle.figures.specs.Make.{small, d, put, blank_unit, unit, three, look, entry, stand, tally}

abbrev number_of : Bool → ℕ
number_of true = 1
number_of false = 0

-- ---- homes
abbrev header : ℕ → ℕ → ℕ → Physical
header base L state = record { base = base; bytes = []; logical = L; state = state }

abbrev bases : List Physical → List ℕ
bases ps = map (λ (p : Physical). p.base) ps

-- Each logical number is on exactly one live unit, its home. Slip: another's unit, a receiving one, the retired one beside it.
pub live_homes : map (λ (L : ℕ). bases (homes_for (header 0 1 live ∷ header 512 0 live ∷ header 1024 0 receiving ∷ header 1536 1 retired ∷ header 2048 0 0xFFF0 ∷ []) L)) (0 ∷ 1 ∷ 2 ∷ [])
    ≡ ((512 ∷ []) ∷ (0 ∷ []) ∷ [] ∷ [])
unfolding opened
live_homes = refl

abbrev each : List Physical → Bool
each ps = one_each 2 0 ps

-- 0..U-2, exactly one each: 0 and 1 of three units. Slip: at least one, at most one, the last or the first number not asked.
pub one_of_each : map each
    ((header 0 0 live ∷ header 512 1 live ∷ header 1024 0xFFFF 0xFFFF ∷ []) ∷ (header 0 1 live ∷ header 512 0xFFFF 0xFFFF ∷ header 1024 0 live ∷ [])
    ∷ (header 0 0 live ∷ header 512 1 live ∷ header 1024 1 live ∷ []) ∷ (header 0 0 live ∷ header 512 1 live ∷ header 1024 0 live ∷ [])
    ∷ (header 0 0 live ∷ header 512 2 live ∷ header 1024 0xFFFF 0xFFFF ∷ []) ∷ (header 0 1 live ∷ header 512 2 live ∷ header 1024 0xFFFF 0xFFFF ∷ [])
    ∷ (header 0 0 live ∷ header 512 1 live ∷ header 1024 2 live ∷ []) ∷ (header 0 0 live ∷ header 512 1 receiving ∷ header 1024 0xFFFF 0xFFFF ∷ []) ∷ [])
    ≡ (true ∷ true ∷ false ∷ false ∷ false ∷ false ∷ true ∷ false ∷ [])
unfolding opened
one_of_each = refl

-- The remaining unit is nobody's home. Slip: always the last, or the first.
pub remaining_units : map (λ (s : Bytes). (look s).spare.base)
    (three blank_unit (unit 0 live []) (unit 1 live []) ∷ three (unit 1 live []) blank_unit (unit 0 live []) ∷ three (unit 1 live []) (unit 0 live []) blank_unit
    ∷ three (unit 0 live []) (unit 1 retired []) (unit 1 live []) ∷ [])
    ≡ (0 ∷ 512 ∷ 1024 ∷ 512 ∷ [])
unfolding opened
remaining_units = refl

-- ... wholly FF. Slip: its header alone, or its last byte not asked.
pub spare_bytes : map is_spare (blank_unit ∷ put 0 (0 ∷ []) blank_unit ∷ put 300 (254 ∷ []) blank_unit ∷ put 511 (0 ∷ []) blank_unit ∷ []) ≡ (true ∷ false ∷ false ∷ false ∷ [])
unfolding opened
spare_bytes = refl

-- Every home is live and the remaining unit is wholly FF. Slip: one of the two not asked.
pub still_images : map (λ (s : Bytes). is_still (look s))
    (three (unit 0 live []) (unit 1 live []) blank_unit ∷ three (unit 0 live []) (unit 1 live []) (put 511 (0 ∷ []) blank_unit)
    ∷ three (unit 0 live []) (unit 1 retired []) blank_unit ∷ three (unit 0 retired []) (unit 1 live []) blank_unit ∷ [])
    ≡ (true ∷ false ∷ false ∷ false ∷ [])
unfolding opened
still_images = refl

-- Homes are found by number, not by place, and are 0 to U-2. Slip: as they lie in the image, or the last left out.
pub homes_in_order : map (λ (h : Home). h.number ∷ h.unit.base ∷ []) (look (three (unit 1 live []) blank_unit (unit 0 live []))).homes ≡ ((0 ∷ 1024 ∷ []) ∷ (1 ∷ 0 ∷ []) ∷ [])
unfolding opened
homes_in_order = refl

-- ---- one home
abbrev as_home : Bytes → Bool
as_home u = is_home small u (room_of small u)

-- A unit with file 7 of three bytes at 508, and after it file 9 of 104 bytes at 404.
abbrev good : Bytes
good = unit 0 live (0xFFF8 ∷ 508 ∷ 3 ∷ 0x1007 ∷ 0xFFF8 ∷ 404 ∷ 104 ∷ 0x1009 ∷ [])

-- In a home bytes 4-15 are FF; what stands before and behind them is asked elsewhere. Slip: not asked.
pub home_headers : map (λ (a : ℕ). has_header (record { number = 0; unit = physical 0 (put a (0 ∷ []) good); room = room_of small good })) (3 ∷ 4 ∷ 9 ∷ 15 ∷ 16 ∷ [])
    ≡ (true ∷ false ∷ false ∷ false ∷ true ∷ [])
unfolding opened
home_headers = refl

-- ... and the gap, here bytes 32 to 403; a sector's own bytes are free. Slip: the gap need not be FF, all but its last bytes, or the sector's too.
pub home_gaps : map (λ (a : ℕ). as_home (put a (0 ∷ []) good)) (32 ∷ 100 ∷ 400 ∷ 402 ∷ 403 ∷ 404 ∷ 508 ∷ 511 ∷ []) ≡ (false ∷ false ∷ false ∷ false ∷ false ∷ true ∷ true ∷ true ∷ [])
unfolding opened
home_gaps = refl

-- ... and every descriptor read is of a listed kind. Slip: not asked.
pub home_kinds : map as_home
    (good ∷ unit 0 live (0xFFFD ∷ 508 ∷ 3 ∷ 0x1007 ∷ []) ∷ unit 0 live (0xFFFF ∷ 508 ∷ 0xFFFF ∷ 0xFFFF ∷ []) ∷ unit 0 live (0xFFF8 ∷ 508 ∷ 3 ∷ 0x1007 ∷ 0x8000 ∷ 0 ∷ 0 ∷ 0 ∷ [])
    ∷ unit 0 live (0 ∷ 7 ∷ 9999 ∷ 9999 ∷ 0xFFFF ∷ 7 ∷ 9999 ∷ 9999 ∷ []) ∷ [])
    ≡ (true ∷ false ∷ false ∷ false ∷ true ∷ [])
unfolding opened
home_kinds = refl

-- Sectors have even offsets and lie between 16 + 8n, here 32, and S. Slip: odd ones, `<` for `<=` at either end, the length not rounded up.
pub sectors_lie : map (lies small 32)
    (d 0xFFF8 30 2 0x1007 ∷ d 0xFFF8 32 2 0x1007 ∷ d 0xFFF8 33 2 0x1007 ∷ d 0xFFF8 34 2 0x1007 ∷ d 0xFFF8 508 3 0x1007 ∷ d 0xFFF8 508 4 0x1007
    ∷ d 0xFFF8 508 5 0x1007 ∷ d 0xFFF8 510 3 0x1007 ∷ d 0xFFF8 512 0 0x1007 ∷ d 0xFFF8 514 0 0x1007 ∷ d 0xFFF8 511 1 0x1007 ∷ d 0xFFF8 256 256 0x1007 ∷ [])
    ≡ (false ∷ true ∷ false ∷ true ∷ true ∷ true ∷ false ∷ false ∷ true ∷ false ∷ false ∷ true ∷ [])
unfolding opened
sectors_lie = refl

-- Tags and lengths are as above. Slip: not asked.
pub sectors_tagged : map (lies small 32) (d 0xFFF8 100 257 0x1007 ∷ d 0xFFF8 100 2 0x2007 ∷ d 0xFFF8 100 0 0x2007 ∷ d 0xFFFC 100 2 0x3000 ∷ d 0xFFFC 100 0 0x3001 ∷ d 0xFFFC 100 0 0x3000 ∷ [])
    ≡ (false ∷ false ∷ true ∷ false ∷ false ∷ true ∷ [])
unfolding opened
sectors_tagged = refl

-- This is asked of allocated, pending, current and old ones. Slip: of pending and current ones alone, or of void ones too.
pub sectors_asked : map (λ (f : ℕ). is_placed small 32 (d f 33 2 0x1007)) (0xFFFF ∷ 0xFFFE ∷ 0xFFFC ∷ 0xFFF8 ∷ 0xFFF0 ∷ 0 ∷ []) ≡ (true ∷ false ∷ false ∷ false ∷ false ∷ true ∷ [])
unfolding opened
sectors_asked = refl

-- In a home: between 16 + 8n and S. Slip: between 16 and S, or not asked.
pub home_sectors : map as_home
    (unit 0 live (0xFFF8 ∷ 24 ∷ 2 ∷ 0x1007 ∷ []) ∷ unit 0 live (0xFFF8 ∷ 22 ∷ 2 ∷ 0x1007 ∷ []) ∷ unit 0 live (0xFFF8 ∷ 16 ∷ 2 ∷ 0x1007 ∷ []) ∷ unit 0 live (0xFFF8 ∷ 510 ∷ 2 ∷ 0x1007 ∷ [])
    ∷ unit 0 live (0xFFF8 ∷ 512 ∷ 2 ∷ 0x1007 ∷ []) ∷ unit 0 live (0xFFF0 ∷ 501 ∷ 2 ∷ 0x1007 ∷ []) ∷ [])
    ≡ (true ∷ false ∷ false ∷ true ∷ false ∷ false ∷ [])
unfolding opened
home_sectors = refl

abbrev at : ℕ → ℕ → Descriptor
at o l = d 0xFFF8 o l 0x1007

-- Sectors do not overlap: side by side is apart, a byte shared is not, one of size 0 shares none. Slip: `<` for `<=`, one side alone, not rounded up.
pub overlaps : (disjoint (at 100 10) (at 110 10) ∷ disjoint (at 110 10) (at 100 10) ∷ disjoint (at 100 10) (at 108 10) ∷ disjoint (at 108 10) (at 100 10)
    ∷ disjoint (at 100 9) (at 109 2) ∷ disjoint (at 109 2) (at 100 9) ∷ disjoint (at 100 20) (at 104 2) ∷ disjoint (at 104 2) (at 100 20) ∷ disjoint (at 100 10) (at 104 0)
    ∷ disjoint (at 104 0) (at 100 10) ∷ disjoint (at 100 10) (at 100 10) ∷ disjoint (at 100 0) (at 100 0) ∷ [])
    ≡ (true ∷ true ∷ false ∷ false ∷ false ∷ false ∷ false ∷ false ∷ true ∷ true ∷ false ∷ true ∷ [])
unfolding opened
overlaps = refl

-- Of those that have a sector, each with each. Slip: neighbours alone, or void ones too.
pub all_apart_lem : (map (λ (f : ℕ). apart (at 100 10) (d f 104 10 0x1007)) (0xFFFF ∷ 0xFFFE ∷ 0xFFFC ∷ 0xFFF8 ∷ 0xFFF0 ∷ 0 ∷ [])
    ++ map all_apart ((at 100 10 ∷ at 200 10 ∷ at 300 10 ∷ []) ∷ (at 100 10 ∷ at 200 10 ∷ at 104 10 ∷ []) ∷ (at 300 10 ∷ at 200 10 ∷ at 204 10 ∷ []) ∷ (at 100 10 ∷ at 104 10 ∷ at 300 2 ∷ []) ∷ []))
    ≡ (true ∷ false ∷ false ∷ false ∷ false ∷ true ∷ true ∷ false ∷ false ∷ false ∷ [])
unfolding opened
all_apart_lem = refl

-- In a home no two sectors overlap. Slip: not asked.
pub home_overlaps : map as_home (unit 0 live (0xFFF8 ∷ 400 ∷ 100 ∷ 0x1007 ∷ 0xFFF0 ∷ 402 ∷ 2 ∷ 0x1008 ∷ []) ∷ unit 0 live (0xFFF8 ∷ 400 ∷ 100 ∷ 0x1007 ∷ 0xFFF0 ∷ 500 ∷ 2 ∷ 0x1008 ∷ []) ∷ [])
    ≡ (false ∷ true ∷ [])
unfolding opened
home_overlaps = refl

-- Each home is as it must be, its header too, and each number has one. Slip: the first home alone asked, or its header not, or the numbers not.
pub housed_images : map (λ (s : Bytes). is_housed small (look s))
    (three good (unit 1 live []) blank_unit ∷ three (put 4 (0 ∷ []) good) (unit 1 live []) blank_unit ∷ three good (put 4 (0 ∷ []) (unit 1 live [])) blank_unit
    ∷ three (put 100 (0 ∷ []) good) (unit 1 live []) blank_unit ∷ three good (put 100 (0 ∷ []) (unit 1 live [])) blank_unit
    ∷ three good (unit 0 live []) blank_unit ∷ three good (unit 2 live []) blank_unit ∷ three good (unit 1 live []) (unit 1 live []) ∷ [])
    ≡ (true ∷ false ∷ false ∷ false ∷ false ∷ false ∷ false ∷ false ∷ [])
unfolding opened
housed_images = refl

-- ---- all homes together
-- A handle is a logical unit and a position; descriptors by logical unit and position. Slip: the physical unit, as they lie in the image, one place on.
pub entries_in_order : map (λ (e : Entry). e.at.unit ∷ e.at.position ∷ e.place ∷ e.start ∷ e.descriptor.tag ∷ [])
    (look (three (unit 1 live (0xFFF8 ∷ 508 ∷ 3 ∷ 0x1007 ∷ [])) blank_unit (unit 0 live (0xFFF0 ∷ 510 ∷ 2 ∷ 0x1008 ∷ 0xFFFF ∷ 0xFFFF ∷ 0xFFFF ∷ 0xFFFF ∷ 0xFFF8 ∷ 500 ∷ 10 ∷ 0x1009 ∷ [])))).entries
    ≡ ((0 ∷ 0 ∷ 1040 ∷ 1534 ∷ 0x1008 ∷ []) ∷ (0 ∷ 1 ∷ 1048 ∷ 66559 ∷ 0xFFFF ∷ []) ∷ (0 ∷ 2 ∷ 1056 ∷ 1524 ∷ 0x1009 ∷ []) ∷ (1 ∷ 0 ∷ 16 ∷ 508 ∷ 0x1007 ∷ []) ∷ [])
unfolding opened
entries_in_order = refl

-- An entry's content: its length's bytes from its offset on. Slip: rounded up, from another offset, of one without a sector.
pub contents_in : map (content_in (0 ∷ 1 ∷ 2 ∷ 3 ∷ 4 ∷ 5 ∷ 6 ∷ 7 ∷ [])) (d 0xFFF8 2 3 0x1007 ∷ d 0xFFFC 4 0 0x1007 ∷ d 0xFFF0 0 2 0x1007 ∷ d 0 2 3 0x1007 ∷ d 0xFFFF 2 3 0x1007 ∷ [])
    ≡ ((2 ∷ 3 ∷ 4 ∷ []) ∷ [] ∷ (0 ∷ 1 ∷ []) ∷ [] ∷ [] ∷ [])
unfolding opened
contents_in = refl

-- ... of its own unit. Slip: another unit's bytes, or none.
pub contents_of_entries : map (λ (e : Entry). e.content)
    (look (three (put 508 (7 ∷ 8 ∷ 9 ∷ []) (unit 1 live (0xFFF8 ∷ 508 ∷ 3 ∷ 0x1007 ∷ []))) blank_unit (put 508 (1 ∷ 2 ∷ 3 ∷ 4 ∷ []) (unit 0 live (0xFFF0 ∷ 510 ∷ 2 ∷ 0x1008 ∷ 0 ∷ 500 ∷ 2 ∷ 0x1008 ∷ 0xFFFC ∷ 508 ∷ 1 ∷ 0x1009 ∷ []))))).entries
    ≡ ((3 ∷ 4 ∷ []) ∷ [] ∷ (1 ∷ []) ∷ (7 ∷ 8 ∷ 9 ∷ []) ∷ [])
unfolding opened
contents_of_entries = refl

abbrev listed : Counts → List ℕ
listed c = c.unfinished ∷ c.committed ∷ c.opened ∷ c.pending ∷ c.pending_pairs ∷ number_of c.current_ok ∷ []

-- What is counted. Slip: torn or allocated ones left out, an open one counted as committed, marks not as pending.
pub counted : listed (counts
    (entry 0 0 16 0xFFFF 0x1001 ∷ entry 0 1 24 0xFFFE 0x1002 ∷ entry 0 2 32 0xFFFE 0x1003 ∷ entry 0 3 40 0xFFFC 0x3000 ∷ entry 0 4 48 0xFFF8 0x3000 ∷ entry 0 5 56 0xFFFC 0x3000
    ∷ entry 0 6 64 0xFFFC 0x1007 ∷ entry 0 7 72 0xFFFC 0x2007 ∷ entry 0 8 80 0xFFFC 0x1008 ∷ entry 0 9 88 0xFFF8 0x1007 ∷ entry 1 0 96 0xFFF0 0x1007 ∷ entry 1 1 104 0 0x1007 ∷ []))
    ≡ (3 ∷ 1 ∷ 2 ∷ 3 ∷ 1 ∷ 1 ∷ [])
unfolding opened
counted = refl

-- A file has at most one pending descriptor, data and marks together. Slip: of neighbours alone, or every file's own.
pub pairs_of_files : map pairs ([] ∷ (entry 0 0 16 0xFFFC 0x1007 ∷ entry 0 1 24 0xFFFC 0x1008 ∷ []) ∷ (entry 0 0 16 0xFFFC 0x1007 ∷ entry 0 1 24 0xFFFC 0x1008 ∷ entry 1 0 32 0xFFFC 0x2007 ∷ [])
    ∷ (entry 0 0 16 0xFFFC 0x1007 ∷ entry 0 1 24 0xFFFC 0x1007 ∷ entry 1 0 32 0xFFFC 0x1007 ∷ []) ∷ [])
    ≡ (0 ∷ 0 ∷ 1 ∷ 3 ∷ [])
unfolding opened
pairs_of_files = refl

-- A file has at most one current descriptor, and delete marks are never current. Slip: one of the two not asked.
pub currents : map is_current_ok ([] ∷ (entry 0 0 16 0xFFF8 0x1007 ∷ entry 0 1 24 0xFFF8 0x1008 ∷ []) ∷ (entry 0 0 16 0xFFF8 0x1007 ∷ entry 1 1 24 0xFFF8 0x1007 ∷ []) ∷ (entry 0 0 16 0xFFF8 0x2007 ∷ [])
    ∷ (entry 0 0 16 0xFFF8 0x1007 ∷ entry 1 1 24 0xFFF8 0x2008 ∷ []) ∷ [])
    ≡ (true ∷ true ∷ false ∷ false ∷ false ∷ [])
unfolding opened
currents = refl

-- Pending data and delete marks exist only beside an open one. Slip: not asked, or an open one must have some.
pub beside_an_open_one : map is_beside (tally 0 0 0 0 0 true ∷ tally 0 0 0 1 0 true ∷ tally 0 0 1 0 0 true ∷ tally 0 0 1 2 0 true ∷ tally 0 1 0 1 0 true ∷ []) ≡ (true ∷ false ∷ true ∷ true ∷ false ∷ [])
unfolding opened
beside_an_open_one = refl

-- No descriptor is torn or allocated; no transaction is committed and at most one is open; each file at most one pending. Slip: one of these not asked.
pub quiet : map is_quiet (tally 0 0 0 0 0 true ∷ tally 0 0 1 2 0 true ∷ tally 1 0 0 0 0 true ∷ tally 0 1 0 0 0 true ∷ tally 0 0 2 0 0 true ∷ tally 0 0 0 1 0 true ∷ tally 0 0 1 2 1 true ∷ tally 0 0 0 0 0 false ∷ [])
    ≡ (true ∷ true ∷ false ∷ false ∷ false ∷ false ∷ false ∷ false ∷ [])
unfolding opened
quiet = refl

-- Those of a kind, of a file, in order. Slip: the others.
pub selected : (map (λ (e : Entry). e.place) (select is_pending_file (record { units = []; homes = []; spare = header 0 0 0; entries = entry 0 0 16 0xFFFC 0x1007 ∷ entry 0 1 24 0xFFF8 0x1007 ∷ entry 0 2 32 0xFFFC 0x2008 ∷ [] })))
    ≡ (16 ∷ 32 ∷ [])
unfolding opened
selected = refl

-- Data and marks of a file. Slip: data alone, every file's.
pub of_a_file : map (of_file 7) (entry 0 0 16 0xFFFC 0x1007 ∷ entry 0 1 24 0xFFF8 0x2007 ∷ entry 0 2 32 0xFFFC 0x1008 ∷ []) ≡ (true ∷ true ∷ false ∷ [])
unfolding opened
of_a_file = refl

-- ---- whole images, with an open transaction and file 7
abbrev with : List ℕ → Bytes
with ds = three (unit 0 live ds) (unit 1 live (0xFFF8 ∷ 512 ∷ 0 ∷ 0x1009 ∷ [])) blank_unit

-- Settled 0, sound 1, neither 2: nothing; open with data and a mark; torn; two open; a mark current; two current of a file; committed and
-- open; a home's header not FF; the spare not FF. Slip: homes or counts not asked.
pub settled_images : map stand
    (with [] ∷ with (0xFFFC ∷ 512 ∷ 0 ∷ 0x3000 ∷ 0xFFFC ∷ 510 ∷ 1 ∷ 0x1007 ∷ 0xFFFC ∷ 510 ∷ 0 ∷ 0x2008 ∷ []) ∷ with (0xFFFF ∷ 512 ∷ 0 ∷ 0x1007 ∷ [])
    ∷ with (0xFFFC ∷ 512 ∷ 0 ∷ 0x3000 ∷ 0xFFFC ∷ 512 ∷ 0 ∷ 0x3000 ∷ []) ∷ with (0xFFF8 ∷ 512 ∷ 0 ∷ 0x2007 ∷ []) ∷ with (0xFFF8 ∷ 512 ∷ 0 ∷ 0x1009 ∷ []) ∷ with (0xFFF8 ∷ 512 ∷ 0 ∷ 0x3000 ∷ 0xFFFC ∷ 512 ∷ 0 ∷ 0x3000 ∷ [])
    ∷ three (put 4 (0 ∷ []) (unit 0 live [])) (unit 1 live []) blank_unit ∷ three (unit 0 live []) (unit 1 live []) (put 511 (0 ∷ []) blank_unit) ∷ [])
    ≡ (0 ∷ 0 ∷ 1 ∷ 2 ∷ 2 ∷ 2 ∷ 2 ∷ 2 ∷ 2 ∷ [])
unfolding opened
settled_images = refl
