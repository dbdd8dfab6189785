pub mod Shapes
pub mod Reached
