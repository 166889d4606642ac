pub mod Changing
pub mod House
