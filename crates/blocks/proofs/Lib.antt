pub mod EachBlocks
pub mod FourRounds
pub mod Turns
pub mod Cuts
pub mod BackAgain
pub mod Puts
