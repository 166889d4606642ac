pub mod Enciphering
pub mod Answers
pub mod CutAnywhere
