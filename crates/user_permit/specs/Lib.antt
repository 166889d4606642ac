pub mod Register
pub mod UserPermit
pub mod Answers
pub mod ReadBack
pub mod OneCharacter
pub mod EitherCase
pub mod OneShip
pub mod Laws
