pub mod Calendar
pub mod Notice
pub mod Order
