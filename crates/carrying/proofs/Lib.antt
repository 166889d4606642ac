pub mod Wider
pub mod Puts
pub mod OldBooks
