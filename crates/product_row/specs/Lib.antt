pub mod Fields
pub mod Row
pub mod Taking
pub mod Starts
