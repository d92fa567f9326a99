pub mod Addresses
pub mod Bound
pub mod Invariant
pub mod Laws
pub mod MemoryTable
pub mod Seen
pub mod Stage
pub mod Tester
