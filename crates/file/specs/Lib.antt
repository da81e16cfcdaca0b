pub mod Verdict
pub mod Ending
pub mod FileAsCalls
pub mod Examples
