pub mod CutTexts
pub mod Lines
pub mod Lengths
pub mod Fates
pub mod SaidTexts
pub mod PutLines
