pub mod Parts
pub mod Planning
pub mod Tallies
pub mod Belief
pub mod Brought
pub mod Exchanged
pub mod Exchanging
pub mod Keeping
