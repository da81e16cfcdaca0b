pub mod Conversion
pub mod Judging
pub mod Laws
pub mod Examples
