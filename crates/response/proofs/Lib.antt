pub mod AtTheEdges
pub mod GridCells
pub mod OverallReturns
