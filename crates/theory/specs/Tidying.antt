-- Mount's tidying, abort and commit's clean-up as one job on a list of entries. Serves demand 3: a mount ends, and shows what was committed.

-- Jobs on lists of entries that shorten by their first step.
pub mod Flat
-- What of a list of entries the jobs read: mount's tidying, abort and commit's clean-up are one job on it.
pub mod Sorted
-- The tidying's next step where no transaction is committed: torn, allocated, open, pending.
pub mod Mending
-- After a commit step: the next pending sector, or its file's current one before it.
pub mod CleanStep
-- The tidying's next step after a commit step.
pub mod CleanUp
-- Mount's tidying ends, by one step less with each step, and keeps what it would show.
pub mod Tidy
-- What holds of every image that a call leaves where no unit is moving; a call by its plan.
pub mod Held
-- The jobs of abort, of mount where no unit is moving, and of commit, as one tidying of the entries.
pub mod Ends
-- The tidying has no more steps than there are descriptors, and those no more than (U - 1)(S - 16)/8.
pub mod Bound
