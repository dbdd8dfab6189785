pub mod Lists
pub mod Fresh
pub mod Keeps
pub mod Settles
pub mod Renews
