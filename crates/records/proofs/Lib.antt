pub mod AtTheEdges
pub mod Returns
pub mod Tenfold
pub mod NoOwnRefusal
