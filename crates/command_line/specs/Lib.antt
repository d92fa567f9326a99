pub mod Addresses
pub mod Arguments
pub mod Commands
pub mod Explanation
pub mod Options
pub mod Help
pub mod Refusal
pub mod Wanted
