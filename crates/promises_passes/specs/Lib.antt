-- What is promised of pass lists and manual passes (Promises.antt).

-- A line read back is the line that was written, and the other way round.
pub mod Decimals
-- A content is a list, and a register, exactly where it is the text of one.
pub mod Grammar
-- What the promises speak of: the calls that giving makes, what the plain store says of a give, and the histories of the piece.
pub mod Words
-- What give decides of an image that a history reaches is what the plain store says.
pub mod Looked
-- Giving is the calls that it makes: the image they leave, and a history that goes on by them.
pub mod Walk
-- What a give makes of the plain store, where a history reaches its image.
pub mod Results
-- What holds along every history of the piece.
pub mod Keeps
-- Along every history of the piece: the register counts the passes, each pass stands, and none was given to fewer than two people.
pub mod Holds
-- A look is not STOPPED.
pub mod Fine
-- Giving has one list of steps, of any bytes.
pub mod Steps
-- A give answers, and goes on, as the plain store says.
pub mod Plainly
-- One give on an image that a history reaches, and what is seen once it is mounted.
pub mod Given
-- The page: gives and passes along every history of the piece.
pub mod Promises
