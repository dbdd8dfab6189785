-- What is promised of the read table (Promises.antt).

-- What the promises on the read table speak of: calls through one table, and the read with 12 after 4.
pub mod Words
-- A call through the table by its answer: the plain call, a stop that marks, a refusal that keeps, and where 12 is given.
pub mod Through
-- After a finished call the table equals the one filled afresh: of any settled image of bytes, whatever led to it.
pub mod Fresh
-- What a finished call leaves of the fresh table: by the kind of the call.
pub mod After
-- The entries of an image by their handles: each stands in the home of its unit, at its position.
pub mod Stood
-- What an entry of the table shows of an image: a descriptor of its homes; and of a settled image the one that the committed view shows.
pub mod CommittedShown
-- The read through the table: beside its own image it is the plain read with 12 after 4; of any table and image it shows nothing wrong.
pub mod Reading
-- Along any calls through one table: it is unusable, or the fresh one of a settled image.
pub mod Kept
-- Where 12 is given; which entries a commit touches; the read beside its own image, as the plain read.
pub mod Stale
-- The page: calls, fills and reads through a table beside its image.
pub mod Promises
-- What `witness_table` computes of the read table are theorems of Promises.antt, each for one history: what makes one of them false makes its theorem false.
pub mod Instances
