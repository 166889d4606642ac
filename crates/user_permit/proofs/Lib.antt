pub mod Registers
pub mod UserPermits
pub mod PermitsBack
pub mod ShipRead
pub mod ChangedPermits
pub mod EitherCases
pub mod AcceptedPermits
pub mod OneShips
