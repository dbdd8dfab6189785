pub mod Tally
pub mod Marks
pub mod Few
pub mod Sums
pub mod Twins
pub mod Kinds
pub mod Bridge
pub mod LoopTurns
