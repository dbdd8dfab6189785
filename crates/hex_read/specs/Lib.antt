pub mod Cells
pub mod Checks
pub mod Fills
