pub mod Words
pub mod Texts
pub mod Backs
pub mod EndsOfTexts
