pub mod Shapes
pub mod Looks
pub mod Decides
pub mod Parts
pub mod Low
pub mod Once
