-- Document 01, "Sound", in figures.
use Rattle.std.specs.Prelude.{true, false, List, [], ◌∷◌, ◌++◌, map, ◌≡◌, refl, ℕ}
use Rattle.rules.specs.Flash.{Bytes}
use Rattle.rules.specs.Unit.{receiving, live, retired}
use Rattle.rules.specs.Sound.{is_unfinished, is_committing, is_within, is_same, home_at}
use Rattle.rules.specs.Opened.{opened}
use Rattle.figures.specs.Make.{put, blank_unit, unit, three, look, stand, tally, home, copied}

-- One torn or one allocated descriptor: all else settled. Slip: two of them, or beside another of the groups.
pub one_unfinished : map is_unfinished (tally 1 0 0 0 0 true ∷ tally 1 0 1 3 0 true ∷ tally 2 0 0 0 0 true ∷ tally 1 0 1 2 1 true ∷ tally 1 0 0 1 0 true ∷ tally 1 1 0 0 0 true ∷ tally 1 0 2 0 0 true ∷ tally 1 0 0 0 0 false ∷ [])
    ≡ (true ∷ true ∷ false ∷ false ∷ false ∷ false ∷ false ∷ false ∷ [])
unfolding opened
one_unfinished = refl

-- One file with two pending descriptors; pending ones with no transaction; both. Slip: two files with two, or the two not together.
pub pending_groups : map is_unfinished (tally 0 0 1 2 1 true ∷ tally 0 0 1 4 2 true ∷ tally 0 0 0 1 0 true ∷ tally 0 0 0 3 1 true ∷ tally 0 0 0 4 2 true ∷ tally 0 1 0 2 1 true ∷ tally 0 0 2 2 1 true ∷ tally 0 0 1 2 1 false ∷ [])
    ≡ (true ∷ false ∷ true ∷ true ∷ false ∷ false ∷ false ∷ false ∷ [])
unfolding opened
pending_groups = refl

-- One committed transaction and none open, each file having at most one pending descriptor. Slip: two committed, one open, a torn one, a pair, or a pending one asked.
pub committing_groups : map is_committing
    (tally 0 1 0 0 0 true ∷ tally 0 1 0 3 0 true ∷ tally 0 0 0 0 0 true ∷ tally 0 2 0 0 0 true ∷ tally 0 1 1 0 0 true ∷ tally 1 1 0 0 0 true ∷ tally 0 1 0 2 1 true ∷ tally 0 1 0 0 0 false ∷ [])
    ≡ (true ∷ true ∷ false ∷ false ∷ false ∷ false ∷ false ∷ false ∷ [])
unfolding opened
committing_groups = refl

-- Each of its words is FFFF or its copy's value. Slip: each byte is FF or its copy's, or the first words alone.
pub words_of_a_copy : map (λ (u : Bytes). is_within u (1 ∷ 2 ∷ 3 ∷ 4 ∷ [])) ((255 ∷ 255 ∷ 255 ∷ 255 ∷ []) ∷ (1 ∷ 2 ∷ 255 ∷ 255 ∷ []) ∷ (255 ∷ 255 ∷ 3 ∷ 4 ∷ []) ∷ (1 ∷ 2 ∷ 3 ∷ 4 ∷ []) ∷ (1 ∷ 255 ∷ 255 ∷ 255 ∷ [])
    ∷ (255 ∷ 2 ∷ 255 ∷ 255 ∷ []) ∷ (255 ∷ 255 ∷ 3 ∷ 255 ∷ []) ∷ (2 ∷ 1 ∷ 3 ∷ 4 ∷ []) ∷ (0 ∷ 0 ∷ 255 ∷ 255 ∷ []) ∷ (255 ∷ 255 ∷ 255 ∷ 4 ∷ []) ∷ [])
    ≡ (true ∷ true ∷ true ∷ true ∷ false ∷ false ∷ false ∷ false ∷ false ∷ false ∷ [])
unfolding opened
words_of_a_copy = refl

-- Every byte is the finished copy's. Slip: a shorter or a longer one, the last byte not asked.
pub same_bytes : (is_same (1 ∷ 2 ∷ []) (1 ∷ 2 ∷ []) ∷ is_same (1 ∷ 2 ∷ []) (1 ∷ 3 ∷ []) ∷ is_same (1 ∷ 2 ∷ []) (1 ∷ []) ∷ is_same (1 ∷ []) (1 ∷ 2 ∷ []) ∷ is_same [] [] ∷ []) ≡ (true ∷ false ∷ false ∷ false ∷ true ∷ [])
unfolding opened
same_bytes = refl

-- ---- moving units
-- Unit 0 empty, unit 1's home as above, and a third unit.
abbrev beside : Bytes → Bytes
beside r = three (unit 0 live []) home r

-- One unit has logical number L and is receiving while L's live unit stands, each of its words FFFF or the copy's. Slip: any word, any number, any state.
pub receiving_units : map stand
    (beside blank_unit ∷ beside (unit 1 receiving []) ∷ beside copied ∷ beside (put 24 (255 ∷ 255 ∷ []) copied) ∷ beside (put 506 (0 ∷ []) copied) ∷ beside (unit 2 receiving []) ∷ beside (unit 0xFFFF receiving (0xFFF0 ∷ []))
    ∷ beside (unit 1 0xFFF8 []) ∷ beside (unit 0 receiving []) ∷ beside (unit 0 receiving (0xFFFC ∷ [])) ∷ [])
    ≡ (0 ∷ 1 ∷ 1 ∷ 1 ∷ 2 ∷ 2 ∷ 2 ∷ 2 ∷ 1 ∷ 2 ∷ [])
unfolding opened
receiving_units = refl

abbrev retired_beside : Bytes → Bytes
retired_beside r = three (unit 0 live []) (put 2 (0xFC ∷ 0xFF ∷ []) home) r

-- ... or L's old home is retired and the copy is complete, still receiving or live. Slip: a copy that is not, or no copy.
pub retired_homes : map stand
    (retired_beside copied ∷ retired_beside (put 2 (0xFE ∷ []) copied) ∷ retired_beside (put 24 (255 ∷ 255 ∷ []) copied) ∷ retired_beside blank_unit ∷ retired_beside (put 2 (0xFE ∷ []) (put 510 (0 ∷ []) copied))
    ∷ retired_beside (put 0 (0 ∷ []) copied) ∷ beside (put 2 (0xFE ∷ []) copied) ∷ beside (put 2 (0xFC ∷ []) copied) ∷ retired_beside (put 2 (0xFC ∷ []) copied) ∷ [])
    ≡ (1 ∷ 1 ∷ 2 ∷ 2 ∷ 2 ∷ 2 ∷ 2 ∷ 2 ∷ 2 ∷ [])
unfolding opened
retired_homes = refl

-- A move is of one unit alone, its copy receiving or live, its old home live or retired. Slip: another home retired, both, another state.
pub other_moves : map stand
    (three (unit 0 retired []) home copied ∷ three (unit 0 retired []) (put 2 (0xFC ∷ []) home) copied ∷ retired_beside (put 2 (0xF8 ∷ []) copied)
    ∷ three (unit 0 retired []) (put 2 (0xFC ∷ []) home) (put 2 (0xFE ∷ []) copied) ∷ three (unit 0 live []) (put 2 (0xF8 ∷ []) home) (put 2 (0xFE ∷ []) copied) ∷ [])
    ≡ (2 ∷ 2 ∷ 2 ∷ 2 ∷ 2 ∷ [])
unfolding opened
other_moves = refl

-- L's home is the retired unit until the copy is live, then the copy. Slip: the copy at once, or the retired one for good.
pub home_of_a_move : map (λ (s : Bytes). (home_at (look s).homes 1).unit.base)
    (beside copied ∷ retired_beside copied ∷ retired_beside (put 2 (0xFE ∷ []) copied) ∷ [])
    ≡ (512 ∷ 512 ∷ 1024 ∷ [])
unfolding opened
home_of_a_move = refl

-- The home of a number. Slip: of the next.
pub home_of_a_number : map (λ (L : ℕ). (home_at (look (beside blank_unit)).homes L).unit.base) (0 ∷ 1 ∷ []) ≡ (0 ∷ 512 ∷ [])
unfolding opened
home_of_a_number = refl

-- ---- exactly one of the groups
abbrev with : List ℕ → Bytes → Bytes
with ds r = three (unit 0 live ds) (unit 1 live []) r

abbrev torn_one : List ℕ
torn_one = 0xFFFF ∷ 0xFFFF ∷ 0xFFFF ∷ 0x1007 ∷ []

abbrev allocated_one : List ℕ
allocated_one = 0xFFFE ∷ 512 ∷ 0 ∷ 0x1007 ∷ []

abbrev open_one : List ℕ
open_one = 0xFFFC ∷ 512 ∷ 0 ∷ 0x3000 ∷ []

abbrev committed_one : List ℕ
committed_one = 0xFFF8 ∷ 512 ∷ 0 ∷ 0x3000 ∷ []

abbrev data_one : List ℕ
data_one = 0xFFFC ∷ 512 ∷ 0 ∷ 0x1007 ∷ []

abbrev mark_one : List ℕ
mark_one = 0xFFFC ∷ 512 ∷ 0 ∷ 0x2007 ∷ []

-- Settled, or settled but for exactly one of these groups. Slip: two at once.
pub one_group : (map (λ (ds : List ℕ). stand (with ds blank_unit))
    (open_one ∷ torn_one ∷ allocated_one ∷ (torn_one ++ allocated_one) ∷ (torn_one ++ torn_one) ∷ (open_one ++ (data_one ++ mark_one)) ∷ data_one ∷ (data_one ++ mark_one) ∷ committed_one ∷ (committed_one ++ data_one) ∷ (committed_one ++ open_one) ∷ (committed_one ++ (data_one ++ mark_one)) ∷ (committed_one ++ torn_one)
    ∷ (torn_one ++ data_one) ∷ (open_one ++ (data_one ++ torn_one)) ∷ (open_one ++ (data_one ++ (mark_one ++ torn_one))) ∷ (open_one ++ (data_one ++ (mark_one ++ data_one))) ∷ [])
    ++ map (λ (ds : List ℕ). stand (with ds (unit 1 receiving []))) ([] ∷ open_one ∷ torn_one ∷ committed_one ∷ data_one ∷ []))
    ≡ (0 ∷ 1 ∷ 1 ∷ 2 ∷ 2 ∷ 1 ∷ 1 ∷ 1 ∷ 1 ∷ 1 ∷ 2 ∷ 2 ∷ 2 ∷ 2 ∷ 1 ∷ 2 ∷ 2 ∷ 1 ∷ 1 ∷ 2 ∷ 2 ∷ 2 ∷ [])
unfolding opened
one_group = refl
