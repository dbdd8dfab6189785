pub mod Shapes
pub mod Homes
pub mod Reads
