pub mod CommentParts
pub mod DoneOr
