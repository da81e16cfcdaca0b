pub mod Forms
pub mod Entries
pub mod Refusals
pub mod Tenfold
pub mod Examples
