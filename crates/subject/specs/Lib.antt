pub mod Days
pub mod Range
pub mod OneVisitMore
pub mod Summary
pub mod Opening
pub mod Laws
pub mod HeldExamples
pub mod OpeningExamples
