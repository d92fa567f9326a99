pub mod Fronts
pub mod Keepings
pub mod Sessions
pub mod Turns
