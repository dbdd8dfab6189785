-- The figures P1 to P5, S = 512 and U = 3: an erased image formatted, then file 0 = the list in one transaction.
use Rattle.std.specs.Prelude.{List, [], ◌∷◌, ℕ, T, replicate}
use Rattle.rules.specs.Flash.{Bytes}
use Rattle.rules.specs.Text.{text}
use Rattle.rules.specs.Opened.{opened}
use Rattle.rules.specs.Calls.{begin, commit, format, mount, write}
use Rattle.rules.specs.declared.Geometry.{Geometry}
use Rattle.rules.specs.declared.Rule.TheVariants.{Tightest}
use Rattle.pass_rules.specs.Opened.{passes}
use Rattle.pass_cases.specs.Tables.{PassRow, absent_is, call, file_is, gives, hold_all, image_of, on, open_is, register_is, staff_is, steps_are, tables}

abbrev pub small : Geometry
small = record { size = 512; units = 3 }

abbrev pub erased_image : Bytes
erased_image = replicate 1536 255

-- an allowance that is never used up
abbrev pub plenty : ℕ
plenty = 100000

-- night=14, zone=3, people=3, person=5, person=9, person=65535
abbrev pub list : Bytes
list =
    0x6e ∷ 0x69 ∷ 0x67 ∷ 0x68 ∷ 0x74 ∷ 0x3d ∷ 0x31 ∷ 0x34 ∷ 0x0a ∷ 0x7a ∷ 0x6f ∷ 0x6e ∷ 0x65 ∷ 0x3d ∷ 0x33 ∷ 0x0a ∷ 0x70 ∷ 0x65 ∷ 0x6f ∷ 0x70 ∷ 0x6c ∷ 0x65 ∷ 0x3d ∷ 0x33 ∷ 0x0a
    ∷ 0x70 ∷ 0x65 ∷ 0x72 ∷ 0x73 ∷ 0x6f ∷ 0x6e ∷ 0x3d ∷ 0x35 ∷ 0x0a ∷ 0x70 ∷ 0x65 ∷ 0x72 ∷ 0x73 ∷ 0x6f ∷ 0x6e ∷ 0x3d ∷ 0x39 ∷ 0x0a
    ∷ 0x70 ∷ 0x65 ∷ 0x72 ∷ 0x73 ∷ 0x6f ∷ 0x6e ∷ 0x3d ∷ 0x36 ∷ 0x35 ∷ 0x35 ∷ 0x33 ∷ 0x35 ∷ 0x0a ∷ []

abbrev pub pass0 : Bytes
pass0 =
    0x70 ∷ 0x61 ∷ 0x73 ∷ 0x73 ∷ 0x3d ∷ 0x30 ∷ 0x0a ∷ 0x66 ∷ 0x69 ∷ 0x72 ∷ 0x73 ∷ 0x74 ∷ 0x3d ∷ 0x35 ∷ 0x0a ∷ 0x73 ∷ 0x65 ∷ 0x63 ∷ 0x6f ∷ 0x6e ∷ 0x64 ∷ 0x3d ∷ 0x39 ∷ 0x0a ∷ []

abbrev pub count1 : Bytes
count1 = 0x63 ∷ 0x6f ∷ 0x75 ∷ 0x6e ∷ 0x74 ∷ 0x3d ∷ 0x31 ∷ 0x0a ∷ []

-- Image 0 is the erased one; each row leaves the image of its own number. Image 4 has the list.
abbrev pub start : List PassRow
start =
    on 0 (call (format plenty)) 0 4 0 (staff_is 20 0 0 0 ∷ register_is 0 0 ∷ [])
    ∷ on 1 (call (begin Tightest plenty)) 0 5 0 []
    ∷ on 2 (call (write Tightest 0 list plenty)) 0 33 0 []
    ∷ on 3 (call (commit plenty)) 0 3 0 (staff_is 0 14 3 3 ∷ register_is 0 0 ∷ steps_are 5 9 plenty (5 ∷ 17 ∷ 9 ∷ 4 ∷ []) ∷ [])
    -- no list; an open transaction
    ∷ on 1 (gives 5 9 plenty) 20 0 0 []
    ∷ on 2 (gives 5 9 plenty) 8 0 0 []
    ∷ []

-- Images 0 and 1 have the list.
abbrev pub passes_given : List PassRow
passes_given =
    -- P1: 5 and 9
    on 0 (gives 5 9 plenty) 0 35 0 (file_is 2 0 3 pass0 ∷ file_is 1 0 4 count1 ∷ register_is 0 1 ∷ open_is 7 ∷ [])
    -- P2: then 65535 and 9
    ∷ on 1 (gives 65535 9 plenty) 0 38 1 (file_is 3 0 6 (text "pass=1\nfirst=65535\nsecond=9\n") ∷ file_is 1 0 7 (text "count=2\n") ∷ register_is 0 2 ∷ [])
    -- P3: P1 cut at 31, at 32 and at 22, each mounted
    ∷ on 0 (gives 5 9 31) 1 31 0 (open_is 0 ∷ register_is 0 0 ∷ [])
    ∷ on 3 (call (mount plenty)) 0 3 0 (open_is 7 ∷ register_is 0 0 ∷ absent_is 2 ∷ [])
    ∷ on 0 (gives 5 9 32) 1 32 0 (open_is 4 ∷ register_is 4 0 ∷ staff_is 4 0 0 0 ∷ [])
    ∷ on 5 (call (mount plenty)) 0 3 0 (register_is 0 1 ∷ file_is 2 0 3 pass0 ∷ [])
    ∷ on 0 (gives 5 9 22) 1 22 0 (open_is 0 ∷ [])
    ∷ on 7 (call (mount plenty)) 0 2 0 (open_is 7 ∷ absent_is 2 ∷ [])
    -- in no step, and in begin's last
    ∷ on 0 (gives 5 9 0) 1 0 0 (open_is 7 ∷ [])
    ∷ on 0 (gives 5 9 5) 1 5 0 (open_is 0 ∷ [])
    -- unsettled; not on the list, before the same person; the same person
    ∷ on 5 (gives 5 9 plenty) 4 0 0 []
    ∷ on 0 (gives 6 5 plenty) 22 0 0 []
    ∷ on 0 (gives 5 6 plenty) 22 0 0 []
    ∷ on 0 (gives 6 6 plenty) 22 0 0 []
    ∷ on 0 (gives 0 5 plenty) 22 0 0 []
    ∷ on 0 (gives 5 65536 plenty) 22 0 0 []
    ∷ on 0 (gives 5 5 plenty) 23 0 0 []
    ∷ []

-- P4: a store so full that the pass fits and the register does not.
abbrev pub full : List PassRow
full =
    on 0 (call (begin Tightest plenty)) 0 5 0 []
    ∷ on 1 (call (write Tightest 200 (replicate 256 0) plenty)) 0 133 0 []
    ∷ on 2 (call (write Tightest 201 (replicate 256 0) plenty)) 0 133 0 []
    ∷ on 3 (call (write Tightest 202 (replicate 224 0) plenty)) 0 117 0 []
    ∷ on 4 (call (write Tightest 203 (replicate 104 0) plenty)) 0 57 0 []
    ∷ on 5 (call (commit plenty)) 0 6 0 (steps_are 5 9 plenty (5 ∷ 17 ∷ 0 ∷ 2 ∷ []) ∷ [])
    ∷ on 6 (gives 5 9 plenty) 10 24 0 (open_is 7 ∷ register_is 0 0 ∷ absent_is 2 ∷ [])
    ∷ on 6 (gives 5 9 24) 10 24 0 (open_is 7 ∷ [])
    ∷ on 6 (gives 5 9 23) 1 23 0 (open_is 4 ∷ [])
    ∷ on 6 (gives 5 9 22) 1 22 0 (open_is 0 ∷ [])
    ∷ on 6 (gives 5 9 21) 1 21 0 []
    ∷ on 6 (gives 5 9 5) 1 5 0 []
    ∷ []

-- P5: the last pass; registers that are full, too great and empty; lists of no people, empty, and bad as the register is.
abbrev pub counts : List PassRow
counts =
    on 0 (call (begin Tightest plenty)) 0 5 0 []
    ∷ on 1 (call (write Tightest 1 (text "count=125\n") plenty)) 0 10 0 []
    ∷ on 2 (call (commit plenty)) 0 3 0 (register_is 0 125 ∷ [])
    ∷ on 3 (gives 5 9 plenty) 0 38 125 (file_is 127 0 5 (text "pass=125\nfirst=5\nsecond=9\n") ∷ register_is 0 126 ∷ [])
    ∷ on 4 (gives 5 9 plenty) 25 0 0 []
    ∷ on 1 (call (write Tightest 1 (text "count=127\n") plenty)) 0 10 0 []
    ∷ on 6 (call (commit plenty)) 0 3 0 (register_is 24 0 ∷ [])
    ∷ on 7 (gives 5 9 plenty) 24 0 0 []
    ∷ on 1 (call (write Tightest 1 [] plenty)) 0 5 0 []
    ∷ on 9 (call (commit plenty)) 0 3 0 (register_is 24 0 ∷ [])
    ∷ on 10 (gives 5 9 plenty) 24 0 0 []
    ∷ on 9 (call (write Tightest 0 (text "night=1\nzone=1\npeople=0\n") plenty)) 0 17 0 []
    ∷ on 12 (call (commit plenty)) 0 5 0 (staff_is 20 0 0 0 ∷ [])
    ∷ on 13 (gives 5 9 plenty) 20 0 0 []
    ∷ on 9 (call (write Tightest 0 [] plenty)) 0 5 0 []
    ∷ on 15 (call (commit plenty)) 0 5 0 (staff_is 21 0 0 0 ∷ [])
    ∷ on 16 (gives 5 9 plenty) 21 0 0 []
    ∷ []

-- The image of the list; and each table from there.
abbrev pub with_list : Bytes
with_list = image_of small 4 start (erased_image ∷ [])

pub begun : T (hold_all small start (erased_image ∷ []))
unfolding opened passes tables
begun = tt

pub p1_to_p3 : T (hold_all small passes_given (with_list ∷ []))
unfolding opened passes tables
p1_to_p3 = tt

pub p4 : T (hold_all small full (with_list ∷ []))
unfolding opened passes tables
p4 = tt

pub p5 : T (hold_all small counts (with_list ∷ []))
unfolding opened passes tables
p5 = tt
