pub mod AtTheEdges
pub mod FieldsFit
pub mod ReadBack
pub mod WrittenBack
pub mod RoundTrip
pub mod WriteReturns
pub mod WorkedExamples
