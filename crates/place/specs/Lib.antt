pub mod Homes
pub mod Search
pub mod Laws
pub mod Best
pub mod Seek
pub mod Found
pub mod Chains
