pub mod Answered
pub mod Laws
