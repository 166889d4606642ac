pub mod Every
pub mod Numbers
pub mod Places
pub mod Padding
pub mod NoChoice
pub mod Inverse
