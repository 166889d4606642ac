pub mod Listing
pub mod Answers
pub mod Promises
pub mod Reading
