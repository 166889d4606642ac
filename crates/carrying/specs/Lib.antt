pub mod Carrying
pub mod OldForm
