pub mod Lookup
pub mod FourStreams
pub mod Sixteens
