pub mod AtTheEdges
pub mod ConvertedFile
pub mod ConvertReturns
pub mod OldFilesKept
pub mod PlacingReturns
pub mod TurnsOfJudging
pub mod TurnsOfWriting
