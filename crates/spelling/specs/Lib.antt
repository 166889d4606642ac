pub mod Spelling
pub mod ThereAndBack
pub mod Ends
