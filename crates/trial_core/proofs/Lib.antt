pub mod Lives
pub mod Trials
mod Turns
