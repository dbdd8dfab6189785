pub mod Units
pub mod Places
pub mod Who
pub mod Bridge
pub mod Left
pub mod LoopTurns
