pub mod Calendar
pub mod Answers
pub mod Laws
pub mod DayByDay
pub mod Examples
