pub mod Cipher
pub mod Schedule
pub mod BackAgain
