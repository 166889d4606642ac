pub mod Asking
pub mod Issuing
