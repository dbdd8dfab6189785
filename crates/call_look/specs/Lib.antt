pub mod Guards
pub mod Known
pub mod Looks
