pub mod Files
pub mod Lines
pub mod Known
pub mod Looks
pub mod Input
pub mod Cut
