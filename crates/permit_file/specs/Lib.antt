pub mod File
pub mod Steps
pub mod EitherCase
pub mod Answers
