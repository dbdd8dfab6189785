-- What follows from the definitions, for every unit size and every number of units.

-- ---- tests and lists
-- What a test tells.
pub mod Tests
-- What holds of every member of a list.
pub mod Lists
-- ---- words, jobs and steps
-- A word by its two bytes, and what a step makes of an image's words and length.
pub mod Words
-- The executor: under an allowance of k a job makes exactly the first k steps of its list.
pub mod Runs
-- Each step of a job's list, at the image where it is reached: it changes something.
pub mod Steps
-- ---- calls
-- What a call may decide: a refusal, one of document 01's jobs, or an entry to show.
pub mod Plans
-- What a call leaves and answers, by its list of steps and its allowance.
pub mod Calls
-- ---- where units, homes and descriptors stand
-- Where an image's units and descriptors stand: units at multiples of their size, descriptors at even offsets, in every image.
pub mod Units
-- The homes of an image by their logical numbers, and what a settled image is.
pub mod Homes
-- Reclaim, position by position.
pub mod Copies
-- A copy's header stays erased: then it is complete if every byte from 4 on is the finished copy's.
pub mod Complete
-- The lowest offset of a room: it is even where the offsets are.
pub mod Rooms
-- The units of an image one by one, and that one of them is nobody's home.
pub mod Spare
-- What a place tells: the unit that is reclaimed has room for the sector once it is packed.
pub mod Places
-- ---- NO ROOM
-- On the same image NO ROOM is the same under both rules: of a plan, and so of every call.
pub mod SameRoom
-- ---- what a reclaim leaves
-- A job that programs only between two offsets leaves the other bytes as they are; what it writes on erased bytes reads back.
pub mod Frames
-- What copying leaves in an erased unit: the packed descriptors, a gap of FF below their sectors, and nothing outside.
pub mod Copied
-- An array read upward: where the descriptors that it meets have even offsets and FF stands between them and their sectors, low is even.
pub mod Readings
-- What a finished move leaves: the copy in the spare unit, live; the old home without a number; every other unit as it was.
pub mod Moved
-- The home of a reclaimed unit: it is the copy, and its low is even.
pub mod Reclaimed
-- ---- each step of a call clears bits in one word or erases one unit
-- Where each job's steps aim: programs at even offsets, erases at whole units.
pub mod Aims
-- Where a store's steps aim, in a settled image: also its data, for the low of the home that it goes to is even.
pub mod Stores
-- Each step of a call's list clears bits in one even-aligned word inside the image, or erases one whole unit.
pub mod Fair
