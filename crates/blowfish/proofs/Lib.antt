pub mod Rounds
pub mod Keys
pub mod BackAgain
pub mod Words
