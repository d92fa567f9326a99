pub mod Renewals
mod Running
pub mod LastTurns
pub mod Records
pub mod Starting
pub mod Chains
pub mod Stopping
pub mod Keepers
mod Storing
mod Leaving
mod Going
mod Calm
mod Growing
mod Loads
mod Backs
mod FastChains
mod Looking
pub mod FastFirst
pub mod Planning
