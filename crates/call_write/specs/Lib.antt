pub mod After
pub mod Plans
