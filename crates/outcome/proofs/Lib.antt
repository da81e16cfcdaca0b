pub mod CallsFollowRecords
pub mod CallsInRange
pub mod EveryAdditionAnswered
pub mod EveryCallAnswered
pub mod Demand3
pub mod WorkedExamples
