pub mod Faults
mod Lines
mod Names
mod Reasons
