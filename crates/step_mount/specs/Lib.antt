pub mod Lists
pub mod Mendable
pub mod Moving
pub mod Mounting
