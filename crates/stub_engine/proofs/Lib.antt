mod Bounds
mod Brought
mod Carried
mod Hosts
mod Joins
mod Layouts
mod Parts
mod Stops
mod Unplanned
pub mod Sessions
pub mod Keepings
pub mod Beliefs
