pub mod Starts
pub mod Judging
