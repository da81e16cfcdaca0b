pub mod TextsWritten
pub mod DigitsStored
pub mod ResponsesWritable
pub mod TurnsOfLoop
pub mod PageAfterListing
