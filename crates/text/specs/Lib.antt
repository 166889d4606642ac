pub mod Ascii
pub mod Characters
pub mod Texts
pub mod Bases
pub mod Inverse
