pub mod Asking
pub mod Heard
pub mod Lives
pub mod Turns
pub mod Typed
