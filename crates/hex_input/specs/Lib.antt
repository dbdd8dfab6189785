pub mod Programs
pub mod Texts
pub mod Images
