pub mod Judged
pub mod Round
pub mod Rounds
pub mod LoopTurns
