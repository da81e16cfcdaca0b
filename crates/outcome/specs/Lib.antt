pub mod ReadingOutcome
pub mod Demand3
pub mod HeldAfter
pub mod Laws
pub mod Examples
