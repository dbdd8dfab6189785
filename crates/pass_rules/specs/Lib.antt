pub mod Texts
pub mod Give
pub mod Opened
