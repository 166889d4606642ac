pub mod Lines
pub mod EncPart
pub mod Dated
pub mod Walk
pub mod Texts
