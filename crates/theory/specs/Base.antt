-- What the rest stands on: lists and tests, what holds along the steps of a job, jobs begun again.

-- Facts of tests and lists that the theorems use: a test is stated as `b ≡ true`.
pub mod Facts
-- What holds along a job's steps, how a run under an allowance goes, and the one law of a programmed word.
pub mod Along
-- A job of programmed words that is begun again: the words that stand are no steps, and the rest are the steps that were left.
pub mod Restart
-- What holds of every image that a call may leave. No other proof looks into what a stop may leave.
pub mod Stops
-- The calls of a history, and small facts of their inputs.
pub mod Inputs
