pub mod Opening
pub mod Judging
pub mod Answers
pub mod ReadBack
