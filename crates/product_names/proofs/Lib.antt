pub mod BlockLaws
pub mod MarkLaws
pub mod BlockTurns
