pub mod HeldFollowsVisits
pub mod CountingDaysFall
pub mod RangeLaws
pub mod WorkedExamples
pub mod HeldAfterBaseline
pub mod OpeningInRange
pub mod OpeningReturns
pub mod WorkedExamplesOfOpening
