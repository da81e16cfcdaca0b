pub mod AtTheEdges
pub mod ClosedForms
pub mod CalendarLaws
pub mod DayByDay
