pub mod WordsByCode
pub mod AtTheEdges
pub mod Laws
pub mod Tenfold
