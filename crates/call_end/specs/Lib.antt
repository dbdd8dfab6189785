pub mod Ends
pub mod Mounting
