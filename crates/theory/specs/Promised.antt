-- Histories of calls: what the page of the demands cites.

-- Every call but format, and what it makes of the plain store.
pub mod Follow
-- Histories: what every image that a history reaches is, beside the plain store and its handles.
pub mod Histories
-- What the views and handles of a settled image show: the plain store, with its handles.
pub mod Reads
-- The proofs of demand 3, on what every reached image is.
pub mod Demanded
-- What a DONE call leaves is settled.
pub mod Finished
