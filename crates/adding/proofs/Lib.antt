pub mod HeldFollowsRecords
pub mod SubjectKeptInRange
pub mod Returns
mod AddingAnswers
pub mod WorkedExamples
