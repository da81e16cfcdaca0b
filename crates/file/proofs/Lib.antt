pub mod AtTheEdges
pub mod ChunksAsParts
pub mod EveryPartAnswered
pub mod FileFollowsRecords
mod Returns
pub mod FileAsCalls
pub mod TurnsOfLoop
pub mod VerdictsApart
pub mod WorkedExamples
