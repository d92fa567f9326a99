pub mod Beliefs
mod Calls
mod Harm
pub mod Inquiries
pub mod Looks
pub mod Numbers
mod Tryings
