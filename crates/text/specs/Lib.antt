pub mod Put
pub mod Says
