-- The starred figures A to K of document 01, S = 512 and U = 3, as one statement over one table. A to G hold under both rules; H to K are made
-- with the old rule; the last rows tell the two apart.
use Rattle.std.specs.Prelude.{List, [], ◌∷◌, ℕ, replicate, take, drop, T}
use Rattle.rules.specs.Flash.{Bytes}
use Rattle.rules.specs.Opened.{opened}
use Rattle.rules.specs.Calls.{format, mount, begin, write, commit, read}
use Rattle.rules.specs.declared.Geometry.{Geometry}
use Rattle.rules.specs.declared.Rule.{Rule}
use Rattle.rules.specs.declared.Rule.TheVariants.{Tightest, Lowest}
use Rattle.cases.specs.Tables.{Row, on, done_at, done, stopped, refused, shows, hold_all, holds_table, tables}
use Rattle.cases.specs.Tables.{Fact, word_is, offset_is, gap_here, home_is, erased_is, file_is, files_are, open_are, settled_here, sound_is}
use Rattle.cases.specs.Parts.{after, by_parts}

abbrev pub small : Geometry
small = record { size = 512; units = 3 }

abbrev pub erased_image : Bytes
erased_image = replicate 1536 255

-- an allowance that is never used up
abbrev pub plenty : ℕ
plenty = 100000

abbrev pub abc : Bytes
abc = 0x61 ∷ 0x62 ∷ 0x63 ∷ []

abbrev full : Bytes
full = replicate 256 0x55

abbrev zeros : Bytes
zeros = replicate 256 0

abbrev both : List Fact
both = files_are 2 ∷ file_is 7 abc ∷ file_is 9 [] ∷ []

-- Image 0 is the erased one; each row leaves the image of its own number. The rows of A to G are made under the rule q.
abbrev table : Rule → List Row
table q =
    -- 1, A: format of an erased image
    on 0 (format plenty) (done 4) (settled_here ∷ [])
    -- 2, B: then begin
    ∷ on 1 (begin q plenty) (done_at 5 0 0) (open_are 1 ∷ [])
    -- 3, C: file 7 = 61 62 63 hex
    ∷ on 2 (write q 7 abc plenty) (done_at 7 0 1) (offset_is 0 1 508 ∷ word_is 508 0x6261 ∷ word_is 510 0xFF63 ∷ [])
    -- 4, D: file 9 empty
    ∷ on 3 (write q 9 [] plenty) (done_at 5 0 2) []
    -- 5 and 6, E: commit stopped at 0, then mount
    ∷ on 4 (commit 0) (stopped 0) []
    ∷ on 5 (mount plenty) (done 3) (files_are 0 ∷ open_are 0 ∷ settled_here ∷ [])
    -- 7 and 8, F: commit stopped at 1, then mount
    ∷ on 4 (commit 1) (stopped 1) (sound_is ∷ [])
    ∷ on 7 (mount plenty) (done 3) both
    -- 9, G: commit in full
    ∷ on 4 (commit plenty) (done 4) both
    ∷ on 9 (read 7) (shows 0 1 abc) []
    ∷ on 9 (read 9) (shows 0 2 []) []
    -- 12 to 14, H, with the old rule: begin, file 1 and file 2 of 256 bytes
    ∷ on 1 (begin Lowest plenty) (done_at 5 0 0) []
    ∷ on 12 (write Lowest 1 full plenty) (done_at 133 0 1) []
    ∷ on 13 (write Lowest 2 full plenty) (done_at 133 1 0) (gap_here 0 224 ∷ gap_here 1 232 ∷ [])
    -- 15: then 216 bytes goes to unit 0; 16, I: 224 to unit 1; 17, J: 225 gets NO ROOM
    ∷ on 14 (write Lowest 3 (replicate 216 1) plenty) (done_at 113 0 2) []
    ∷ on 14 (write Lowest 3 (replicate 224 1) plenty) (done_at 117 1 1) []
    ∷ on 14 (write Lowest 3 (replicate 225 1) plenty) (refused 10) []
    -- 18 to 22, K, with the old rule: file 1 written twice with 256 zero bytes in two transactions
    ∷ on 12 (write Lowest 1 zeros plenty) (done_at 133 0 1) []
    ∷ on 18 (commit plenty) (done 3) []
    ∷ on 19 (begin Lowest plenty) (done_at 5 0 2) []
    ∷ on 20 (write Lowest 1 zeros plenty) (done_at 133 1 0) []
    ∷ on 21 (commit plenty) (done 4) []
    -- 23: begin; file 2 with 256 zero bytes: unit 0 is reclaimed into unit 2 by 8 steps (24), 141 in all (25)
    ∷ on 22 (begin Lowest plenty) (done_at 5 0 3) (home_is 0 0 ∷ erased_is 2 ∷ [])
    ∷ on 23 (write Lowest 2 zeros 8) (stopped 8) (home_is 0 2 ∷ erased_is 0 ∷ settled_here ∷ open_are 1 ∷ [])
    ∷ on 23 (write Lowest 2 zeros plenty) (done_at 141 0 0) (home_is 0 2 ∷ home_is 1 1 ∷ erased_is 0 ∷ [])
    -- 26 and 27: file 1 of 230 bytes leaves unit 0 a gap of 250, file 2 of 256 bytes unit 1 one of 232
    ∷ on 12 (write Lowest 1 (replicate 230 1) plenty) (done_at 120 0 1) (gap_here 0 250 ∷ gap_here 1 496 ∷ [])
    ∷ on 26 (write Lowest 2 full plenty) (done_at 133 1 0) (gap_here 0 250 ∷ gap_here 1 232 ∷ [])
    -- 28 and 29, where the rules differ: file 3 empty goes to unit 0 by the old rule, to unit 1 with the smaller gap by the default
    ∷ on 27 (write Lowest 3 [] plenty) (done_at 5 0 2) []
    ∷ on 27 (write Tightest 3 [] plenty) (done_at 5 1 1) []
    ∷ []

abbrev start : List Bytes
start = erased_image ∷ []

-- The rows in parts, A to G, H to J, K and where the rules differ, so that no more than one of them is computed at a time.
first : (q : Rule) → T (hold_all small (take 11 (table q)) start)
unfolding opened tables
first Tightest = tt
first Lowest = tt

second : (q : Rule) → T (hold_all small (take 6 (drop 11 (table q))) (after small 11 (table q) start))
unfolding opened tables after
second q = tt

third : (q : Rule) → T (hold_all small (drop 6 (drop 11 (table q))) (after small 6 (drop 11 (table q)) (after small 11 (table q) start)))
unfolding opened tables after
third q = tt

-- The starred figures hold, all 29 rows, with A to G under either rule.
pub starred : (q : Rule) → T (holds_table small 29 (table q) (erased_image ∷ []))
unfolding holds_table
starred q = by_parts small 11 (table q) start (first q) (by_parts small 6 (drop 11 (table q)) (after small 11 (table q) start) (second q) (third q))
