pub mod AtTheEdges
pub mod DecimalDigits
pub mod TextLengths
pub mod ChangeLengths
pub mod VisitLengths
pub mod RefusalDigits
pub mod ListingLength
