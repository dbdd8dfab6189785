pub mod Copying
pub mod Laws
