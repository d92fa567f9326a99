pub mod Explained
pub mod Failure
pub mod FaultOutput
pub mod Held
pub mod LineReason
pub mod Output
pub mod Status
pub mod SystemReason
