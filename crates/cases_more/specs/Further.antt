-- What the starred figures leave open: the choice of the unit to reclaim, views, handles, each refusal, each group of "sound".
use Rattle.std.specs.Prelude.{List, [], ◌∷◌, ◌++◌, ℕ, ◌/◌, ◌%◌, replicate, take, drop, T}
use Rattle.rules.specs.Flash.{Bytes}
use Rattle.rules.specs.Text.{text}
use Rattle.rules.specs.Opened.{opened}
use Rattle.rules.specs.Calls.{format, mount, begin, write, delete, commit, abort, read, read_open, read_at}
use Rattle.rules.specs.declared.Rule.TheVariants.{Tightest}
use Rattle.cases.specs.Starred.{small, erased_image, plenty, abc}
use Rattle.cases.specs.Tables.{Row, on, done_at, done, stopped, refused, shows, shows_file, saying, hold_all, holds_table, tables}
use Rattle.cases.specs.Tables.{word_is, gap_here, home_is, erased_is, file_is, files_are, open_are, settled_here, sound_is, bad_is, lists_as}
use Rattle.cases.specs.Parts.{after, by_parts}

-- A unit of 512 bytes from its words: logical number, state, and descriptors from byte 16 on. All else, its sectors too, is FF.
abbrev bytes_of : List ℕ → Bytes
bytes_of [] = []
bytes_of (w ∷ ws) = w % 256 ∷ (w / 256 ∷ bytes_of ws)

abbrev unit : ℕ → List ℕ → Bytes
unit L descriptors = take 512 (bytes_of (L ∷ 0xFFFE ∷ []) ++ (replicate 12 255 ++ (bytes_of descriptors ++ replicate 512 255)))

-- An open transaction, file 1 of 256 bytes, 180 old bytes; and in unit 1 file 2 of 100 bytes between 356 old bytes.
-- Reclaimed, unit 0 would have a gap of 224 and unit 1 one of 380.
abbrev unlike : Bytes
unlike =
    unit 0
    (0xFFFC ∷ 512 ∷ 0 ∷ 0x3000
    ∷ 0xFFF8 ∷ 256 ∷ 256 ∷ 0x1001
    ∷ 0xFFF0 ∷ 76 ∷ 180 ∷ 0x1001 ∷ [])
    ++ (unit 1
    (0xFFF0 ∷ 256 ∷ 256 ∷ 0x1002
    ∷ 0xFFF8 ∷ 156 ∷ 100 ∷ 0x1002
    ∷ 0xFFF0 ∷ 56 ∷ 100 ∷ 0x1002 ∷ [])
    ++ replicate 512 255)

-- Reclaimed, either unit would have a gap of 224.
abbrev alike : Bytes
alike =
    unit 0
    (0xFFFC ∷ 512 ∷ 0 ∷ 0x3000
    ∷ 0xFFF8 ∷ 256 ∷ 256 ∷ 0x1001
    ∷ 0xFFF0 ∷ 76 ∷ 180 ∷ 0x1001 ∷ [])
    ++ (unit 1
    (0xFFF8 ∷ 256 ∷ 256 ∷ 0x1002
    ∷ 0xFFF8 ∷ 256 ∷ 0 ∷ 0x1003
    ∷ 0xFFF0 ∷ 76 ∷ 180 ∷ 0x1002 ∷ [])
    ++ replicate 512 255)

abbrev sixty : Bytes
sixty = replicate 60 1

abbrev abd : Bytes
abd = 0x61 ∷ 0x62 ∷ 0x64 ∷ []

-- Images 0 to 4 are given; each row leaves the image of its own number, 5 on.
abbrev given : List Bytes
given = erased_image ∷ replicate 1535 255 ∷ replicate 1536 0 ∷ unlike ∷ alike ∷ []

abbrev table : List Row
table =
    -- 5 to 8: file 7 committed
    on 0 (format plenty) (done 4) []
    ∷ on 5 (begin Tightest plenty) (done_at 5 0 0) []
    ∷ on 6 (write Tightest 7 abc plenty) (done_at 7 0 1) (files_are 0 ∷ [])
    ∷ on 7 (commit plenty) (done 3) (files_are 1 ∷ file_is 7 abc ∷ [])
    -- 9 to 12: a delete mark in the transaction view, and in the committed one
    ∷ on 8 (begin Tightest plenty) (done_at 5 0 2) []
    ∷ on 9 (delete Tightest 7 plenty) (done_at 5 0 3) (file_is 7 abc ∷ [])
    ∷ on 10 (read_open 7) (saying 2 (refused 9)) []
    ∷ on 10 (read 7) (shows 0 1 abc) []
    -- 13 to 14: then the file written empty: not absent
    ∷ on 10 (write Tightest 7 [] plenty) (done_at 6 0 4) []
    ∷ on 13 (read_open 7) (saying 2 (shows 0 4 [])) []
    -- 15: the mark committed; 16: aborted
    ∷ on 10 (commit plenty) (done 4) (files_are 0 ∷ settled_here ∷ [])
    ∷ on 10 (abort plenty) (done 2) (files_are 1 ∷ file_is 7 abc ∷ open_are 0 ∷ settled_here ∷ [])
    -- 17 to 20: reads by handle: current data, an old transaction, a logical unit over U-2, a position not below n
    ∷ on 8 (read_at 0 1) (shows_file 7 abc) []
    ∷ on 8 (read_at 0 0) (refused 11) []
    ∷ on 8 (read_at 2 0) (refused 11) []
    ∷ on 8 (read_at 0 3) (refused 11) []
    -- 21 to 31: the refusals 5, 6, 7, 8, 9, 2 and 3, each where it is first due
    ∷ on 8 (read 256) (refused 5) []
    ∷ on 6 (write Tightest 255 [] plenty) (done_at 5 0 1) []
    ∷ on 5 (write Tightest 256 (replicate 257 0) plenty) (refused 5) []
    ∷ on 5 (write Tightest 255 (replicate 257 0) plenty) (refused 6) []
    ∷ on 5 (write Tightest 255 (replicate 256 0) plenty) (refused 7) []
    ∷ on 5 (read_open 7) (refused 7) []
    ∷ on 6 (begin Tightest plenty) (refused 8) []
    ∷ on 5 (read 7) (refused 9) []
    ∷ on 6 (delete Tightest 7 plenty) (saying 1 (refused 9)) []
    ∷ on 1 (read 7) (refused 2) []
    ∷ on 2 (mount plenty) (refused 3) (bad_is ∷ [])
    -- 32 to 34: torn: refusal 4 till it is mounted
    ∷ on 6 (write Tightest 7 abc 1) (stopped 1) (sound_is ∷ [])
    ∷ on 32 (read 7) (refused 4) []
    ∷ on 32 (mount plenty) (done 2) (files_are 0 ∷ open_are 0 ∷ settled_here ∷ [])
    -- 35 to 36: allocated
    ∷ on 6 (write Tightest 7 abc 4) (stopped 4) (word_is 24 0xFFFE ∷ sound_is ∷ [])
    ∷ on 35 (mount plenty) (done 2) (files_are 0 ∷ open_are 0 ∷ settled_here ∷ [])
    -- 37 to 38: one file with two pending descriptors
    ∷ on 7 (write Tightest 7 abd 7) (stopped 7) (sound_is ∷ [])
    ∷ on 37 (mount plenty) (done 3) (files_are 0 ∷ open_are 0 ∷ settled_here ∷ [])
    -- 39 to 40: a pending descriptor with no transaction
    ∷ on 7 (abort 1) (stopped 1) (sound_is ∷ open_are 0 ∷ [])
    ∷ on 39 (mount plenty) (done 1) (files_are 0 ∷ settled_here ∷ [])
    -- 41 to 42: both together
    ∷ on 37 (mount 1) (stopped 1) (sound_is ∷ open_are 0 ∷ [])
    ∷ on 41 (mount plenty) (done 2) (files_are 0 ∷ settled_here ∷ [])
    -- 43 to 44: a committed transaction
    ∷ on 7 (commit 1) (stopped 1) (sound_is ∷ files_are 0 ∷ [])
    ∷ on 43 (mount plenty) (done 2) (files_are 1 ∷ file_is 7 abc ∷ settled_here ∷ [])
    -- 45: the greatest gap wins, the empty position is used again, and the copied sector keeps its own
    ∷ on 3 (write Tightest 3 sixty plenty) (done_at 43 1 0) (home_is 0 0 ∷ home_is 1 2 ∷ erased_is 1 ∷ gap_here 1 320 ∷ [])
    ∷ on 45 (read_at 1 1) (shows_file 2 (replicate 100 255)) []
    -- 47: on a tie the lowest number wins
    ∷ on 4 (write Tightest 4 sixty plenty) (done_at 47 0 2) (home_is 0 2 ∷ home_is 1 1 ∷ erased_is 0 ∷ [])
    -- 48 to 49: a copy being made
    ∷ on 3 (write Tightest 3 sixty 1) (stopped 1) (sound_is ∷ home_is 1 1 ∷ [])
    ∷ on 48 (mount plenty) (done 8) (home_is 1 2 ∷ files_are 2 ∷ open_are 0 ∷ settled_here ∷ [])
    -- 50 to 51: the old home retired, the copy complete and still receiving
    ∷ on 3 (write Tightest 3 sixty 6) (stopped 6) (sound_is ∷ home_is 1 1 ∷ [])
    ∷ on 50 (mount plenty) (done 3) (home_is 1 2 ∷ files_are 2 ∷ settled_here ∷ [])
    -- 52 to 53: the copy live, the old home not yet erased
    ∷ on 3 (write Tightest 3 sixty 7) (stopped 7) (sound_is ∷ home_is 1 2 ∷ [])
    ∷ on 52 (mount plenty) (done 2) (home_is 1 2 ∷ erased_is 1 ∷ files_are 2 ∷ settled_here ∷ [])
    -- 54 to 55: case G's listing, whole
    ∷ on 7 (write Tightest 9 [] plenty) (done_at 5 0 2) []
    ∷ on 54 (commit plenty) (done 4)
    (lists_as (text "unit=512\nunits=3\nopen=0\nfiles=2\nfile=7 length=3 at=0:1\nfile=9 length=0 at=0:2\n") ∷ [])
    ∷ []

-- The rows in two parts, 5 to 31 and 32 to 55, so that no more than one of them is computed at a time.
first : T (hold_all small (take 27 table) given)
unfolding opened tables
first = tt

second : T (hold_all small (drop 27 table) (after small 27 table given))
unfolding opened tables after
second = tt

-- They hold, all 51 rows.
pub further : T (holds_table small 51 table given)
unfolding holds_table
further = by_parts small 27 table given first second
