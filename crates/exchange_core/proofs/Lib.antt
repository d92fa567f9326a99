pub mod Chunks
pub mod Keys
pub mod Steps
mod Bytes
mod Cuts
mod Fronts
mod Parts
mod Soundings
mod Stubs
pub mod Together
