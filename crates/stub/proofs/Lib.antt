pub mod Cuts
pub mod Decoding
mod Events
mod Forms
pub mod Memory
mod Moves
pub mod Numbers
pub mod Outside
pub mod Points
mod Quick
pub mod Seen
mod Sizes
pub mod Whole
