pub mod TwoParts
pub mod BothPut
pub mod LineGives
