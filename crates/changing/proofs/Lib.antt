pub mod Numbers
pub mod ChangeRules
pub mod Days
pub mod Done
