pub mod Giving
pub mod Keeping
pub mod Led
pub mod Session
pub mod Stopping
pub mod Ways
