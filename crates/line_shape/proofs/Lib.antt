pub mod Faults
pub mod Clean
pub mod Dates
pub mod Shapes
