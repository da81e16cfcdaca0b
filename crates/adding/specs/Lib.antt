pub mod OneRecordMore
pub mod Responses
pub mod Refusals
pub mod Promises
pub mod Stepping
pub mod Examples
