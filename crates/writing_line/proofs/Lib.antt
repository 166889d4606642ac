pub mod LinePlaced
pub mod LineAnswers
