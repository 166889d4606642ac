pub mod Texts
pub mod Mailed
pub mod Saying
pub mod Putting
