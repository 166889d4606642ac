pub mod WholeBlocks
pub mod CutAnywhere
pub mod Keys
pub mod Gathering
pub mod LastBlock
pub mod Pieces
pub mod Calls
pub mod PartCalls
