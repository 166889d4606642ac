pub mod LookThrough
pub mod Enough
pub mod Turns
pub mod EitherCase
pub mod ServiceLevel
