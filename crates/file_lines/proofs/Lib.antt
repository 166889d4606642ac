pub mod LineEnds
pub mod Fronts
pub mod PartEnds
pub mod DatedFiles
pub mod Walks
pub mod TextEnds
