pub mod Shapes
pub mod People
pub mod Puts
