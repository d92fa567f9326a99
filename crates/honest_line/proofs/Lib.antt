pub mod Passings
pub mod Wires
pub mod Leading
pub mod Runs
pub mod Trusted
mod Foreign
mod Lines
mod Lendings
pub mod Going
pub mod Started
