pub mod Finding
pub mod Moves
