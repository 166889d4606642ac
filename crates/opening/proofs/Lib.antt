pub mod GivenTests
pub mod FirstBook
pub mod Opens
