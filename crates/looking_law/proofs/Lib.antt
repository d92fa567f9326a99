mod Again
mod Answers
pub mod Believed
pub mod Events
mod Harmless
pub mod Keys
pub mod Loading
mod Looks
pub mod Mirrors
pub mod Never
pub mod Parts
pub mod Runs
pub mod Saying
pub mod Splits
mod Tidy
pub mod Told
pub mod Trials
