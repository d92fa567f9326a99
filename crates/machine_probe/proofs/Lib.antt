pub mod Founds
pub mod LastWords
mod Searching
mod Stepping
pub mod Believed
mod Faults
mod Joins
mod Left
mod Noting
pub mod OneLine
mod OneWord
pub mod PuttingBack
pub mod Reports
