pub mod Shifts
pub mod Lookup
pub mod Feeding
pub mod OneChange
