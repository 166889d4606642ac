pub mod Layout
pub mod Readable
