pub mod Sought
pub mod Seeking
