-- Where descriptors stand once a home was moved. Serves the code of a store that reclaims, which does not search again.

-- Places moved along with a unit, and entries that follow it.
pub mod Rebased
-- The entries of the homes after a move follow those before it: each stands where its place is moved along.
pub mod Followed
-- What the image that a finished move leaves is read as, by what it was read as before.
pub mod AfterMove
-- A store that first reclaims a unit: its handle and all its steps, by what the image is read as before the first of them.
pub mod StoreAfter
