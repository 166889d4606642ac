pub mod Repeats
pub mod Marking
pub mod Blocks
