pub mod Bounds
pub mod Months
pub mod Years
pub mod Parts
pub mod Rising
pub mod Next
pub mod Left
pub mod Levels
