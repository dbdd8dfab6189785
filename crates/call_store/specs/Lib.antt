pub mod Stores
pub mod Rooms
pub mod Laws
pub mod Moves
pub mod Placed
pub mod Chosen
