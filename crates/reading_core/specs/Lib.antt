pub mod Addresses
pub mod Bound
pub mod Foreign
pub mod Invariant
pub mod Laws
pub mod Reader
pub mod ReadingTable
