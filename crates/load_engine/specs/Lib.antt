pub mod Belief
pub mod Driven
pub mod Driving
pub mod Lent
pub mod Ways
