mod Beliefs
mod Driven
mod Lendings
mod Steps
pub mod News
pub mod Sessions
