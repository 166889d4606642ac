pub mod FilePadding
pub mod ReadBack
pub mod AllSame
pub mod LastBlock
pub mod TextCrc
pub mod KeyJudged
pub mod Openings
