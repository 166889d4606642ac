pub mod Blocks
pub mod Permits
pub mod Cells
pub mod Files
pub mod Lists
pub mod Books
pub mod CommentPart
pub mod Texts
