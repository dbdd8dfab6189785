-- The plain store that an image stands for, and what each call makes of it. Serves demand 2.

-- The plain store with its handles: a map of files, over it at most one open transaction; and what it is for entries to mean it.
pub mod Means
-- Handles: no two entries of an image have one handle, and what a handle shows is its file's current data.
pub mod Handles
-- A mount keeps what the store means: the files, and a transaction that is still open.
pub mod MeansMount
-- Abort and commit, and what the store means after them.
pub mod MeansEnds
-- A commit stopped anywhere: nothing is done before its first step, and all is committed from it on.
pub mod MeansCommit
-- A store into a home that fits: nothing changes in what the store means before its last step, and that makes the change.
pub mod StoreMeans
-- What the store means after a store's last step: a transaction is open, or has one change more.
pub mod StoreFinal
-- What the store means after the last step of a write or a delete: its transaction has one change more.
pub mod StoreChange
-- A store wherever it is placed, with what it makes of the plain store; begin, write and delete as calls.
pub mod StorePlaced
