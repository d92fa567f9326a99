pub mod Devices
pub mod Dialogue
pub mod Failures
pub mod KeepTable
pub mod Told
pub mod Turns
