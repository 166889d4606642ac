pub mod Blocks
pub mod Fours
