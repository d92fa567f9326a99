pub mod First
pub mod OfRecord
pub mod Seen
pub mod Spread
