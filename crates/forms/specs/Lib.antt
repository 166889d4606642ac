pub mod Order
pub mod Refusals
pub mod Identifiers
pub mod Output
pub mod DateText
pub mod Laws
