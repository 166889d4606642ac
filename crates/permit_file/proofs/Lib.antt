pub mod NextLines
pub mod Steps
pub mod Headers
pub mod EitherCases
pub mod Answers
