pub mod Crc32
pub mod OneChange
pub mod Table
