-- Document 01, *Reclaim* and *Store*, in figures.
use Rattle.std.specs.Prelude.{[], ◌∷◌, map, ◌≡◌, refl, ℕ, replicate}
use Rattle.rules.specs.Flash.{Bytes, program, erase}
use Rattle.rules.specs.Unit.{live}
use Rattle.rules.specs.Settled.{Entry}
use Rattle.rules.specs.Jobs.{reclaim, fill_in, size_for, earlier_of}
use Rattle.rules.specs.Calls.{begin, write, delete, list_of}
use Rattle.rules.specs.Opened.{opened}
use Rattle.rules.specs.declared.Rule.TheVariants.{Tightest}
use Rattle.figures.specs.Make.{small, put, blank_unit, unit, three, look, plenty}

-- ---- *Reclaim L*
abbrev old7 : Bytes
old7 = put 504 (0x61 ∷ 0x62 ∷ 0x63 ∷ 0xFF ∷ []) (unit 1 live (0xFFF0 ∷ 508 ∷ 4 ∷ 0x1001 ∷ 0xFFF8 ∷ 504 ∷ 3 ∷ 0x1007 ∷ []))

-- Program L into the spare; copy; retire the old home; make the copy live; erase the old home. Slip: live first, erase first, another unit.
pub reclaim_steps : reclaim small (look (three blank_unit old7 (unit 0 live []))) 1
    ≡ (program 0 1
    ∷ program 24 0xFFF8 ∷ program 26 508 ∷ program 28 3 ∷ program 30 0x1007 ∷ program 508 0x6261 ∷ program 510 0xFF63
    ∷ program 514 0xFFFC ∷ program 2 0xFFFE ∷ erase 512 512 ∷ [])
unfolding opened
reclaim_steps = refl

-- ---- *Store*
-- Tag, length, offset, flags FFFE, data words ascending, flags FFFC. Slip: two of them the other way round, flags last, data descending.
pub store_steps : fill_in 1048 1024 506 0x1007 (1 ∷ 2 ∷ 3 ∷ 4 ∷ 5 ∷ [])
    ≡ (program 1054 0x1007 ∷ program 1052 5 ∷ program 1050 506 ∷ program 1048 0xFFFE ∷ program 1530 0x0201 ∷ program 1532 0x0403 ∷ program 1534 0xFF05 ∷ program 1048 0xFFFC ∷ [])
unfolding opened
store_steps = refl

-- A sector occupies its length rounded up to even. Slip: not rounded.
pub sizes_for : map size_for ([] ∷ (1 ∷ []) ∷ (1 ∷ 2 ∷ []) ∷ (1 ∷ 2 ∷ 3 ∷ []) ∷ []) ≡ (0 ∷ 2 ∷ 2 ∷ 4 ∷ [])
unfolding opened
sizes_for = refl

-- An open transaction, an empty position, file 7 pending of five bytes; in unit 1 file 7 pending no more, file 8 pending.
abbrev opened7 : Bytes
opened7 = three (unit 0 live (0xFFFC ∷ 512 ∷ 0 ∷ 0x3000 ∷ 0xFFFF ∷ 0xFFFF ∷ 0xFFFF ∷ 0xFFFF ∷ 0xFFFC ∷ 506 ∷ 5 ∷ 0x1007 ∷ []))
    (unit 1 live (0xFFF0 ∷ 510 ∷ 2 ∷ 0x1007 ∷ 0xFFFC ∷ 510 ∷ 0 ∷ 0x2008 ∷ 0xFFF8 ∷ 508 ∷ 2 ∷ 0x1009 ∷ [])) blank_unit

-- The offset is low - e; then the file's earlier pending descriptor becomes FFF0. Slip: low, the length not rounded up, the earlier one first, the current one, another file's.
pub write_steps : list_of small (write Tightest 7 (0x61 ∷ 0x62 ∷ 0x63 ∷ []) plenty) opened7
    ≡ (program 30 0x1007 ∷ program 28 3 ∷ program 26 502 ∷ program 24 0xFFFE ∷ program 502 0x6261 ∷ program 504 0xFF63 ∷ program 24 0xFFFC ∷ program 32 0xFFF0 ∷ [])
unfolding opened
write_steps = refl

-- A file with none pending has no earlier one. Slip: another file's becomes FFF0.
pub write_of_another : list_of small (write Tightest 9 [] plenty) opened7 ≡ (program 30 0x1009 ∷ program 28 0 ∷ program 26 506 ∷ program 24 0xFFFE ∷ program 24 0xFFFC ∷ [])
unfolding opened
write_of_another = refl

-- Delete stores a delete mark. Slip: data of length 0, or the earlier one left.
pub delete_steps : list_of small (delete Tightest 7 plenty) opened7 ≡ (program 30 0x2007 ∷ program 28 0 ∷ program 26 506 ∷ program 24 0xFFFE ∷ program 24 0xFFFC ∷ program 32 0xFFF0 ∷ [])
unfolding opened
delete_steps = refl

-- An earlier delete mark of the file is its pending descriptor too. Slip: data alone.
pub write_over_a_mark : list_of small (write Tightest 8 [] plenty) opened7 ≡ (program 30 0x1008 ∷ program 28 0 ∷ program 26 506 ∷ program 24 0xFFFE ∷ program 24 0xFFFC ∷ program 536 0xFFF0 ∷ [])
unfolding opened
write_over_a_mark = refl

-- Begin stores a transaction, at position n where none is empty. Slip: another tag, an earlier one ended.
pub begin_steps : list_of small (begin Tightest plenty) (three (unit 0 live (0xFFF8 ∷ 510 ∷ 2 ∷ 0x1009 ∷ [])) (unit 1 live []) blank_unit)
    ≡ (program 30 0x3000 ∷ program 28 0 ∷ program 26 510 ∷ program 24 0xFFFE ∷ program 24 0xFFFC ∷ [])
unfolding opened
begin_steps = refl

-- The file's earlier pending descriptor, data or mark. Slip: the current one.
pub earlier_ones : (map (λ (f : ℕ). map (λ (e : Entry). e.place) (earlier_of f (look opened7))) (7 ∷ 8 ∷ 9 ∷ [])) ≡ ((32 ∷ []) ∷ (536 ∷ []) ∷ [] ∷ [])
unfolding opened
earlier_ones = refl

-- Old sectors fill both units; in unit 0 stand an open transaction and file 1, pending.
abbrev crowded : Bytes
crowded = three (unit 0 live (0xFFFC ∷ 512 ∷ 0 ∷ 0x3000 ∷ 0xFFF0 ∷ 312 ∷ 200 ∷ 0x1009 ∷ 0xFFFC ∷ 308 ∷ 4 ∷ 0x1001 ∷ 0xFFF0 ∷ 52 ∷ 256 ∷ 0x1009 ∷ []))
    (unit 1 live (0xFFF8 ∷ 256 ∷ 256 ∷ 0x1002 ∷ 0xFFF0 ∷ 52 ∷ 204 ∷ 0x1009 ∷ [])) blank_unit

-- Place, then the store's own steps from the image as the reclaim leaves it: the earlier pending one where it now stands. Slip: where it stood, the position after the old ones.
pub reclaim_then_store : list_of small (write Tightest 1 (5 ∷ 5 ∷ replicate 28 255) plenty) crowded
    ≡ (program 1024 0 ∷ program 1040 0xFFFC ∷ program 1042 512 ∷ program 1044 0 ∷ program 1046 0x3000
    ∷ program 1056 0xFFFC ∷ program 1058 508 ∷ program 1060 4 ∷ program 1062 0x1001
    ∷ program 2 0xFFFC ∷ program 1026 0xFFFE ∷ erase 0 512
    ∷ program 1054 0x1001 ∷ program 1052 30 ∷ program 1050 478 ∷ program 1048 0xFFFE ∷ program 1502 0x0505 ∷ program 1048 0xFFFC ∷ program 1056 0xFFF0 ∷ [])
unfolding opened
reclaim_then_store = refl
