pub mod AnswerRules
pub mod LineWritten
