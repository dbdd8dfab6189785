-- Document 01, *Commit*, *Abort* and *Mount*, in figures.
use Rattle.std.specs.Prelude.{List, [], ◌∷◌, ◌++◌, map, ◌≡◌, refl, ℕ}
use Rattle.rules.specs.Flash.{Bytes, Step, program, erase}
use Rattle.rules.specs.Unit.{receiving, live}
use Rattle.rules.specs.Settled.{Physical, Entry, Survey}
use Rattle.rules.specs.Jobs.{clean_up, commit_job, abort_job, mend, tidy}
use Rattle.rules.specs.Calls.{commit, abort, mount, list_of}
use Rattle.rules.specs.Histories.{mounting, mount_bound}
use Rattle.rules.specs.Opened.{opened}
use Rattle.figures.specs.Make.{small, put, blank_unit, unit, three, entry, plenty}

abbrev spare : Physical
spare = record { base = 1024; bytes = blank_unit; logical = 0xFFFF; state = 0xFFFF }

abbrev over : List Entry → Survey
over es = record { units = []; homes = []; spare = spare; entries = es }

-- Pending: file 9 at 100, 7 at 108, a delete mark of 8 at 116, 5 at 124. Current: 7 at 200, 8 at 208, 6 at 216. The transaction is at 300.
abbrev files : List Entry
files =
    entry 0 0 200 0xFFF8 0x1007 ∷ entry 0 1 100 0xFFFC 0x1009 ∷ entry 0 2 108 0xFFFC 0x1007 ∷ entry 0 3 216 0xFFF8 0x1006 ∷ entry 0 4 220 0xFFF0 0x1009
    ∷ entry 1 0 116 0xFFFC 0x2008 ∷ entry 1 1 208 0xFFF8 0x1008 ∷ entry 1 2 124 0xFFFC 0x1005 ∷ []

abbrev turn_steps : List Step
turn_steps = program 100 0xFFF8 ∷ program 200 0xFFF0 ∷ program 108 0xFFF8 ∷ program 208 0xFFF0 ∷ program 116 0xFFF0 ∷ program 124 0xFFF8 ∷ []

-- For each pending descriptor, by logical unit and position: the file's current one becomes FFF0, then the pending one FFF8, a delete mark FFF0. Slip: the reverse order, the pending one first, a mark FFF8.
pub clean_up_steps : clean_up [] (over files) ≡ turn_steps
unfolding opened
clean_up_steps = refl

-- The transaction becomes FFF8: the commit step; last it becomes FFF0. Slip: it comes last or later, FFF0 first, another's flags.
pub commit_steps : commit_job (over (entry 0 5 300 0xFFFC 0x3000 ∷ files)) ≡ (program 300 0xFFF8 ∷ (turn_steps ++ (program 300 0xFFF0 ∷ [])))
unfolding opened
commit_steps = refl

-- Abort: the transaction becomes FFF0, then each pending one FFF0, in the same order. Slip: pending ones first, the reverse order, current ones too, marks left out.
pub abort_steps : abort_job (over (entry 0 5 300 0xFFFC 0x3000 ∷ files)) ≡ (program 300 0xFFF0 ∷ program 100 0xFFF0 ∷ program 108 0xFFF0 ∷ program 116 0xFFF0 ∷ program 124 0xFFF0 ∷ [])
unfolding opened
abort_steps = refl

-- Torn becomes 0000, allocated FFF0. Slip: the one for the other, or both alike.
pub mend_steps : (mend (over (entry 0 0 16 0xFFFF 0x1007 ∷ [])) ∷ mend (over (entry 0 0 16 0xFFFE 0x1007 ∷ [])) ∷ mend (over files) ∷ [])
    ≡ ((program 16 0 ∷ []) ∷ (program 16 0xFFF0 ∷ []) ∷ [] ∷ [])
unfolding opened
mend_steps = refl

-- Torn and allocated are mended before the transaction is ended. Slip: after it.
pub mend_first : tidy (over (entry 0 5 300 0xFFFC 0x3000 ∷ entry 0 6 100 0xFFFC 0x1009 ∷ entry 0 7 16 0xFFFF 0x1007 ∷ [])) ≡ (program 16 0 ∷ program 300 0xFFF0 ∷ program 100 0xFFF0 ∷ [])
unfolding opened
mend_first = refl

-- Then finish a committed transaction. Slip: abort it, commit it anew, leave it.
pub finish_committed : tidy (over (entry 0 5 300 0xFFF8 0x3000 ∷ files)) ≡ (turn_steps ++ (program 300 0xFFF0 ∷ []))
unfolding opened
finish_committed = refl

-- ... or abort the open one and all that is pending. Slip: commit it, or only where one is open.
pub abort_the_open_one : (tidy (over (entry 0 5 300 0xFFFC 0x3000 ∷ entry 0 6 100 0xFFFC 0x1009 ∷ [])) ∷ tidy (over (entry 0 6 100 0xFFFC 0x1009 ∷ entry 1 0 108 0xFFFC 0x2007 ∷ [])) ∷ tidy (over []) ∷ [])
    ≡ ((program 300 0xFFF0 ∷ program 100 0xFFF0 ∷ []) ∷ (program 100 0xFFF0 ∷ program 108 0xFFF0 ∷ []) ∷ [] ∷ [])
unfolding opened
abort_the_open_one = refl

-- ---- a moving unit
abbrev home : Bytes
home = put 504 (0x61 ∷ 0x62 ∷ 0x63 ∷ 0xFF ∷ []) (unit 1 live (0xFFF0 ∷ 508 ∷ 4 ∷ 0x1001 ∷ 0xFFF8 ∷ 504 ∷ 3 ∷ 0x1007 ∷ []))

abbrev copied : Bytes
copied = put 508 (0x61 ∷ 0x62 ∷ 0x63 ∷ 0xFF ∷ []) (unit 1 receiving (0xFFFF ∷ 0xFFFF ∷ 0xFFFF ∷ 0xFFFF ∷ 0xFFF8 ∷ 508 ∷ 3 ∷ 0x1007 ∷ []))

abbrev moving : Bytes → Bytes → Bytes
moving h r = three r (unit 0 live []) h

-- Finish a moving unit from where it stands: what is already copied is no step; a retired unit is erased. Slip: begin anew, erase the copy, retire it twice, leave it.
pub move_finished : map (list_of small (mount plenty))
    (moving home blank_unit ∷ moving home (put 28 (255 ∷ 255 ∷ []) copied) ∷ moving (put 2 (0xFC ∷ []) home) copied ∷ moving (put 2 (0xFC ∷ []) home) (put 2 (0xFE ∷ []) copied) ∷ [])
    ≡ ([] ∷ (program 28 3 ∷ program 1026 0xFFFC ∷ program 2 0xFFFE ∷ erase 1024 512 ∷ []) ∷ (program 2 0xFFFE ∷ erase 1024 512 ∷ []) ∷ (erase 1024 512 ∷ []) ∷ [])
unfolding opened
move_finished = refl

-- A moving unit first, then the transaction that it has copied is aborted where it now stands. Slip: where it stood, or before the move.
pub move_then_abort : list_of small (mount plenty) (moving (unit 1 live (0xFFF0 ∷ 512 ∷ 0 ∷ 0x1001 ∷ 0xFFFC ∷ 512 ∷ 0 ∷ 0x3000 ∷ [])) (unit 1 receiving []))
    ≡ (program 24 0xFFFC ∷ program 26 512 ∷ program 28 0 ∷ program 30 0x3000 ∷ program 1026 0xFFFC ∷ program 2 0xFFFE ∷ erase 1024 512 ∷ program 24 0xFFF0 ∷ [])
unfolding opened
move_then_abort = refl

-- ---- whole calls
-- Unit 0: the open transaction, file 7 pending. Unit 1: file 7 current, file 8's delete mark pending, file 8 current.
abbrev pended : ℕ → Bytes
pended flags = three (unit 0 live (flags ∷ 512 ∷ 0 ∷ 0x3000 ∷ 0xFFFC ∷ 510 ∷ 1 ∷ 0x1007 ∷ []))
    (unit 1 live (0xFFF8 ∷ 508 ∷ 4 ∷ 0x1007 ∷ 0xFFFC ∷ 508 ∷ 0 ∷ 0x2008 ∷ 0xFFF8 ∷ 500 ∷ 8 ∷ 0x1008 ∷ [])) blank_unit

-- What commit, abort and mount do on an image: the list of each. Slip: the one for the other.
pub ends_of_a_transaction : (list_of small (commit plenty) (pended 0xFFFC) ∷ list_of small (abort plenty) (pended 0xFFFC) ∷ list_of small (mount plenty) (pended 0xFFFC) ∷ list_of small (mount plenty) (pended 0xFFF8) ∷ [])
    ≡ ((program 16 0xFFF8 ∷ program 528 0xFFF0 ∷ program 24 0xFFF8 ∷ program 544 0xFFF0 ∷ program 536 0xFFF0 ∷ program 16 0xFFF0 ∷ [])
    ∷ (program 16 0xFFF0 ∷ program 24 0xFFF0 ∷ program 536 0xFFF0 ∷ []) ∷ (program 16 0xFFF0 ∷ program 24 0xFFF0 ∷ program 536 0xFFF0 ∷ [])
    ∷ (program 528 0xFFF0 ∷ program 24 0xFFF8 ∷ program 544 0xFFF0 ∷ program 536 0xFFF0 ∷ program 16 0xFFF0 ∷ []) ∷ [])
unfolding opened
ends_of_a_transaction = refl

-- Torn becomes 0000, allocated FFF0, by a mount. Slip: a mount that voids an allocated one.
pub mount_mends : map (λ (f : ℕ). list_of small (mount plenty) (three (unit 0 live (f ∷ 512 ∷ 0 ∷ 0x1007 ∷ [])) (unit 1 live []) blank_unit)) (0xFFFF ∷ 0xFFFE ∷ 0xFFFC ∷ 0xFFF8 ∷ 0xFFF0 ∷ 0 ∷ [])
    ≡ ((program 16 0 ∷ []) ∷ (program 16 0xFFF0 ∷ []) ∷ (program 16 0xFFF0 ∷ []) ∷ [] ∷ [] ∷ [] ∷ [])
unfolding opened
mount_mends = refl

-- A mount takes at most S/2 + 1 + (U-1)(S-16)/8 steps: 1,395 for S = 1,024, U = 8. Slip: U for U-1, S for S-16, no 1.
pub mount_bounds : (mount_bound (record { size = 1024; units = 8 }) ∷ mount_bound small ∷ mount_bound (record { size = 4096; units = 16 }) ∷ []) ≡ (1395 ∷ 381 ∷ 9699 ∷ [])
unfolding opened
mount_bounds = refl

-- ... over all restarts together. Slip: of the last alone, or from the first image each time.
pub mounts_together : mounting small (1 ∷ 0 ∷ 1 ∷ 9 ∷ 9 ∷ []) (pended 0xFFFC) ≡ 3
unfolding opened
mounts_together = refl
