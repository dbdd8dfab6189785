-- What holds of any sound image of bytes, whether or not a history reaches it.

-- From the tests to the layout: a unit of bytes that passes for a home is laid out as it is read.
pub mod Reading
-- Numbers that differ from one another: where as many as there are stand below a bound, each number below it is among them.
pub mod Distinct
-- A unit of an image by its place, and a home's number and state.
pub mod Number
-- Any image whose logical numbers have their homes, and whose homes are as they must be, by its parts.
pub mod Housed
-- A sound image case by case: what its descriptors are, and the three ways to be moving.
pub mod Fine
-- Any moving unit: what the tests tell of it is a stage of a move.
pub mod AnyMove
-- A retired unit beside its live copy, whatever else it holds: mounting is one erase, and then the tidying.
pub mod OldLeft
-- What holds of any sound image of bytes, reached or not: each is covered by what the jobs keep, so that its mounts restart and settle.
pub mod AnySound
