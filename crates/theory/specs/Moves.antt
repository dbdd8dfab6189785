-- A reclaim: a home is copied, retired, taken over and erased. Serves demand 3: a move that is stopped can be finished, and loses nothing.

-- The copy that reclaiming makes, as a layout.
pub mod Copied
-- A receiving unit: each of its words is erased or the copy's. A step of the copying keeps that.
pub mod Within
-- A moving unit: the homes are read as before, and the image can be mounted.
pub mod Moving
-- The steps of the copying write the copy: each programs a word with what the copy has there.
pub mod Written
-- The copying as steps of the image: whatever stands after each of them can be mounted.
pub mod Copying
-- The copy is live: it is L's home, and the old home is left over.
pub mod Swap
-- The packed copy of a home is a good home: its array, its gap and its bytes from low up.
pub mod Packed
-- What the copy of a home holds, by the home's parts: its state word plays no part.
pub mod Gather
-- Entries alike: one handle, kind, file, length and content, wherever they stand. A move leaves such entries.
pub mod Alike
-- A home moved to its copy: the entries are alike, so what is quiet stays quiet and every file shows what it showed.
pub mod Moved
-- All steps of the copying made, from whatever words of the copy stand: the unit is the copy.
pub mod Covered
-- A home moved: fill the copy, retire the home, make the copy live, erase the old home.
pub mod Move
-- From stage to stage of a move: the first word, the filling, the seal, the erase.
pub mod Stages
-- How many steps a move has: half a unit's bytes at the most.
pub mod FillFew
-- What a mount does at each stage of a move: the same steps, of which those that were made are no steps any more.
pub mod MoveJobs
