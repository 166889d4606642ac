pub mod Stops
pub mod OwnWalk
