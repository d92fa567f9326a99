pub mod Change
pub mod Request
