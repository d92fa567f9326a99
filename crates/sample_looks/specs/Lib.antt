pub mod Cost
pub mod Finding
pub mod Looked
pub mod LooksFirst
pub mod Places
pub mod Samples
