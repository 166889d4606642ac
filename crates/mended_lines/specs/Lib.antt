pub mod Gives
pub mod Giving
