-- The demands, on one page (Demands.antt), with the proofs in the words of the plain store, and what shows that they say something.

-- Every call answers as the plain store does: number, content and file.
pub mod Answered
-- Every call says where its answer came from as the plain store does.
pub mod Origins
-- What a call makes of the plain store, by its number: what the plain call gives.
pub mod After
-- Instances at S = 512, U = 3, and four useless stores that no statement of demand 2 lets through.
pub mod Useless
-- Handles over any calls: while a file is unchanged its handle gives the same file and bytes; a write's handle is its file's once committed.
pub mod Unchanged
-- Absent is not empty; and the listing shows exactly the committed files, with their lengths.
pub mod Absent
-- The listing of a settled image: the plain store's, with the image's handles; and the handle that a read by file gives.
pub mod Lists
-- A history begins in every geometry of document 01, on any image of its length.
pub mod Begins
-- The page: demands 1 to 3, of any geometry and any image that a history reaches.
pub mod Demands
-- What `witness` computes are theorems of Demands.antt, each for one history: what makes one of them false makes its theorem false.
pub mod Instances
-- Each theorem of the page once more, its statement written out, and proved by the page alone.
pub mod Restated
