-- The theory behind the promises: docs/THEORY.md leads through it, from each promise to the files that carry it.
-- What the rest stands on: lists and tests, what holds along the steps of a job, jobs begun again.
pub mod Base
-- An image by its parts: units, homes, descriptors, sectors, and how it is read back from them.
pub mod Images
-- Mount's tidying, abort and commit's clean-up as one job on a list of entries. Serves demand 3: a mount ends, and shows what was committed.
pub mod Tidying
-- A store of one sector, step by step. Serves demands 2 and 3: what a begin, write or delete that is stopped leaves.
pub mod Storing
-- A reclaim: a home is copied, retired, taken over and erased. Serves demand 3: a move that is stopped can be finished, and loses nothing.
pub mod Moves
-- What every call keeps, and mounts one after the other until one ends. Serves demand 3: the bound over all restarts.
pub mod Mounting
-- Where descriptors stand once a home was moved. Serves the code of a store that reclaims, which does not search again.
pub mod After
-- The plain store that an image stands for, and what each call makes of it. Serves demand 2.
pub mod Meaning
-- Histories of calls: what the page of the demands cites.
pub mod Promised
