pub mod Asking
pub mod Lives
pub mod Turns
