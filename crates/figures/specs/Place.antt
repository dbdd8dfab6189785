-- Document 01, *Format* and *Place*, in figures.
use Rattle.std.specs.Prelude.{true, false, List, [], ◌∷◌, ◌++◌, map, ◌≡◌, refl, ℕ, ◌+◌}
use Rattle.std.proofs.Math.Option.{Option, none, some}
use Rattle.rules.specs.Flash.{program, erase}
use Rattle.rules.specs.Unit.{live, Descriptor, Room, n, gap}
use Rattle.rules.specs.Settled.{Physical, Home, Survey}
use Rattle.rules.specs.Jobs.{format_job, vacant, fits, key, lesser, least, reclaimed, as_it_stands, once_reclaimed, no_room, place}
use Rattle.rules.specs.Opened.{opened}
use Rattle.rules.specs.declared.Rule.{Rule}
use Rattle.rules.specs.declared.Rule.TheVariants.{Tightest, Lowest}
use Rattle.figures.specs.Make.{small, d, put, blank_unit, unit, three}

-- ---- *Format*
-- Erase, ascending, every unit not wholly FF; then for units 0..U-2 program logical number, the unit's own, and FFFE. Slip: every unit, descending, FFFE first, the last unit too.
pub format_steps : map (format_job small) (three (put 511 (0 ∷ []) blank_unit) blank_unit (unit 0 live []) ∷ three blank_unit blank_unit blank_unit ∷ [])
    ≡ ((erase 0 512 ∷ erase 1024 512 ∷ program 0 0 ∷ program 2 0xFFFE ∷ program 512 1 ∷ program 514 0xFFFE ∷ []) ∷ (program 0 0 ∷ program 2 0xFFFE ∷ program 512 1 ∷ program 514 0xFFFE ∷ []) ∷ [])
unfolding opened
format_steps = refl

-- ---- *Place*
abbrev taken : Descriptor
taken = d 0xFFF8 500 0 0x1007

abbrev blank_one : Descriptor
blank_one = d 0xFFFF 0xFFFF 0xFFFF 0xFFFF

-- A room of two positions, the first of them empty or not, with a gap of 100.
abbrev holed : Room
holed = record { array = blank_one ∷ taken ∷ []; low = 132 }

abbrev dense : Room
dense = record { array = taken ∷ taken ∷ []; low = 132 }

-- A unit fits if it has an empty position below n and e <= gap. Slip: `e < gap`, or without the position.
pub fits_an_empty_position : map (λ (e : ℕ). fits e holed) (0 ∷ 92 ∷ 94 ∷ 98 ∷ 100 ∷ 102 ∷ []) ≡ (true ∷ true ∷ true ∷ true ∷ true ∷ false ∷ [])
unfolding opened
fits_an_empty_position = refl

-- ... or if e + 8 <= gap. Slip: `e + 8 < gap`, `e <= gap`, or only with an empty position.
pub fits_a_new_position : (map (λ (e : ℕ). fits e dense) (0 ∷ 90 ∷ 92 ∷ 94 ∷ 100 ∷ []) ++ map (λ (low : ℕ). fits 0 (record { array = []; low = low })) (16 ∷ 22 ∷ 24 ∷ 512 ∷ []))
    ≡ (true ∷ true ∷ true ∷ false ∷ false ∷ false ∷ false ∷ true ∷ true ∷ [])
unfolding opened
fits_a_new_position = refl

-- The lowest empty position is used, else position n. Slip: the last empty one, a torn or a void one, always n.
pub vacant_positions : map vacant ([] ∷ (taken ∷ taken ∷ []) ∷ (taken ∷ blank_one ∷ taken ∷ blank_one ∷ taken ∷ []) ∷ (blank_one ∷ taken ∷ []) ∷ (d 0 0xFFFF 0xFFFF 0xFFFF ∷ d 0xFFFF 0xFFFF 0xFFFF 0x1007 ∷ d 0xFFF0 512 0 0x1007 ∷ blank_one ∷ taken ∷ []) ∷ [])
    ≡ (0 ∷ 2 ∷ 1 ∷ 0 ∷ 3 ∷ [])
unfolding opened
vacant_positions = refl

abbrev nowhere : Physical
nowhere = record { base = 0; bytes = []; logical = 0; state = 0 }

abbrev home : ℕ → List Descriptor → ℕ → Home
home L ds low = record { number = L; unit = nowhere; room = record { array = ds; low = low } }

abbrev homes : List Home → Survey
homes hs = record { units = []; homes = hs; spare = nowhere; entries = [] }

-- A home with so large a gap.
abbrev spaced : ℕ → ℕ → Home
spaced L room = home L (taken ∷ []) (24 + room)

-- What a rule goes by: the gap as the unit stands, or its number. Slip: the one for the other, the low.
pub keys : map (λ (q : Rule). key q (spaced 5 100)) (Tightest ∷ Lowest ∷ []) ≡ (100 ∷ 5 ∷ [])
unfolding opened
keys = refl

abbrev number_or : Option Home → ℕ
number_or none = 999
number_or (some h) = h.number

-- Of two, the one with the lesser key, the first on a tie. Slip: the greater, the second on a tie.
pub lesser_of_two : map (λ (q : Rule). map (λ (o : Option Home). (lesser q (spaced 1 100) o).number) (none ∷ some (spaced 2 100) ∷ some (spaced 2 98) ∷ some (spaced 2 102) ∷ [])) (Tightest ∷ Lowest ∷ [])
    ≡ ((1 ∷ 1 ∷ 2 ∷ 1 ∷ []) ∷ (1 ∷ 1 ∷ 1 ∷ 1 ∷ []) ∷ [])
unfolding opened
lesser_of_two = refl

-- Of some, the one with the least key. Slip: the first, the last, none of one.
pub least_of_some : map (λ (q : Rule). map (λ (hs : List Home). number_or (least q hs)) ([] ∷ (spaced 0 100 ∷ []) ∷ (spaced 0 100 ∷ spaced 1 90 ∷ spaced 2 95 ∷ []) ∷ (spaced 0 100 ∷ spaced 1 95 ∷ spaced 2 90 ∷ []) ∷ [])) (Tightest ∷ Lowest ∷ [])
    ≡ ((999 ∷ 0 ∷ 1 ∷ 2 ∷ []) ∷ (999 ∷ 0 ∷ 0 ∷ 0 ∷ []) ∷ [])
unfolding opened
least_of_some = refl

-- The default takes the fitting unit with the smallest gap: of gaps 100, 200 and 150. Slip: the greatest gap, the lowest number, the smallest gap, fitting or not.
pub tightest_that_fits : map (λ (e : ℕ). place small Tightest e (homes (spaced 0 100 ∷ spaced 1 200 ∷ spaced 2 150 ∷ []))) (0 ∷ 92 ∷ 94 ∷ 142 ∷ 144 ∷ 192 ∷ [])
    ≡ (as_it_stands 0 ∷ as_it_stands 0 ∷ as_it_stands 2 ∷ as_it_stands 2 ∷ as_it_stands 1 ∷ as_it_stands 1 ∷ [])
unfolding opened
tightest_that_fits = refl

-- ... lowest number on a tie. Slip: the highest.
pub tightest_on_a_tie : map (λ (hs : List Home). place small Tightest 10 (homes hs)) ((spaced 0 200 ∷ spaced 1 100 ∷ spaced 2 100 ∷ []) ∷ (spaced 0 100 ∷ spaced 1 100 ∷ spaced 2 90 ∷ []) ∷ (spaced 0 100 ∷ spaced 1 200 ∷ spaced 2 100 ∷ []) ∷ [])
    ≡ (as_it_stands 1 ∷ as_it_stands 2 ∷ as_it_stands 0 ∷ [])
unfolding opened
tightest_on_a_tie = refl

-- The gap is the key, with an empty position or without: units with gaps of 100, the second with an empty position. Slip: the room that the sector leaves.
pub tightest_with_a_position : map (λ (e : ℕ). place small Tightest e (homes (home 0 (taken ∷ taken ∷ []) 132 ∷ home 1 (blank_one ∷ taken ∷ []) 132 ∷ home 2 (blank_one ∷ taken ∷ []) 130 ∷ []))) (92 ∷ 94 ∷ 98 ∷ 100 ∷ [])
    ≡ (as_it_stands 2 ∷ as_it_stands 2 ∷ as_it_stands 2 ∷ as_it_stands 1 ∷ [])
unfolding opened
tightest_with_a_position = refl

-- The old rule takes the lowest logical unit that fits: of gaps 100 and 200. Slip: the highest, the greatest gap, the smallest that fits.
pub lowest_that_fits : map (λ (e : ℕ). place small Lowest e (homes (home 0 (taken ∷ []) 124 ∷ home 1 (taken ∷ []) 224 ∷ home 2 (taken ∷ []) 174 ∷ []))) (0 ∷ 92 ∷ 94 ∷ 142 ∷ 192 ∷ [])
    ≡ (as_it_stands 0 ∷ as_it_stands 0 ∷ as_it_stands 1 ∷ as_it_stands 1 ∷ as_it_stands 1 ∷ [])
unfolding opened
lowest_that_fits = refl

-- A current sector of so many bytes and an old one down to the array: only reclaimed does the unit have room.
abbrev full : ℕ → ℕ → Home
full L kept = home L (d 0xFFF8 400 kept 0x1007 ∷ d 0xFFF0 24 256 0x1008 ∷ []) 32

-- If none does, consider each unit as it would be after reclaiming: its room. Slip: the old sectors still there, the array not closed at its end.
pub rooms_after : map (λ (h : Home). h.number ∷ n h.room ∷ h.room.low ∷ gap h.room ∷ [])
    (reclaimed small (full 0 100 ∷ home 1 (d 0xFFF0 510 2 0x1001 ∷ d 0xFFFC 507 3 0x1002 ∷ d 0xFFF8 507 0 0x3000 ∷ d 0 7 7 7 ∷ d 0xFFFE 506 1 0x1003 ∷ []) 32 ∷ []))
    ≡ ((0 ∷ 1 ∷ 412 ∷ 388 ∷ []) ∷ (1 ∷ 3 ∷ 508 ∷ 468 ∷ []) ∷ [])
unfolding opened
rooms_after = refl

-- Of those that would then fit, reclaim the one with the greatest gap, the lowest number on a tie, under both rules. Slip: the smallest, the highest number, the first that fits.
pub greatest_gap : (q : Rule) → map (λ (hs : List Home). place small q 10 (homes hs))
    ((full 0 100 ∷ full 1 80 ∷ full 2 90 ∷ []) ∷ (full 0 80 ∷ full 1 100 ∷ full 2 90 ∷ []) ∷ (full 0 90 ∷ full 1 100 ∷ full 2 80 ∷ []) ∷ (full 0 90 ∷ full 1 80 ∷ full 2 80 ∷ []) ∷ (full 0 80 ∷ full 1 80 ∷ full 2 80 ∷ []) ∷ [])
    ≡ (once_reclaimed 1 ∷ once_reclaimed 0 ∷ once_reclaimed 2 ∷ once_reclaimed 1 ∷ once_reclaimed 0 ∷ [])
unfolding opened
greatest_gap q = refl

-- Of those that would then fit: unit 0 has the greater gap, 248, but no empty position; unit 1 has one, and a gap of 246. Slip: the greatest gap, fitting or not.
pub greatest_that_fits : (q : Rule) → map (λ (e : ℕ). place small q e (homes (home 0 (d 0xFFF8 300 240 0x1007 ∷ []) 24 ∷ home 1 (d 0xFFF0 500 2 0x1001 ∷ d 0xFFF8 300 234 0x1007 ∷ []) 32 ∷ []))) (240 ∷ 242 ∷ 246 ∷ 248 ∷ [])
    ≡ (once_reclaimed 0 ∷ once_reclaimed 1 ∷ once_reclaimed 1 ∷ no_room ∷ [])
unfolding opened
greatest_that_fits q = refl

-- A unit that fits as it stands goes before any reclaim. Slip: the greatest gap of all.
pub before_a_reclaim : (q : Rule) → (place small q 10 (homes (full 0 0 ∷ home 1 (taken ∷ []) 50 ∷ [])) ∷ place small q 10 (homes (home 0 (taken ∷ []) 42 ∷ full 1 0 ∷ [])) ∷ []) ≡ (as_it_stands 1 ∷ as_it_stands 0 ∷ [])
unfolding opened
before_a_reclaim q = refl

-- If none, NO ROOM. Slip: the lowest unit all the same.
pub no_room_lem : (q : Rule) → (place small q 256 (homes (full 0 256 ∷ full 1 256 ∷ [])) ∷ place small q 0 (homes []) ∷ []) ≡ (no_room ∷ no_room ∷ [])
unfolding opened
no_room_lem q = refl
