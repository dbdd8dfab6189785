pub mod Says
pub mod Puts
