pub mod Decimal
pub mod Text
pub mod Laws
pub mod Examples
