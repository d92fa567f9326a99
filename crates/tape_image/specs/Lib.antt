pub mod Memory
pub mod Word
pub mod Image
pub mod Pages
pub mod Plan
pub mod Overlay
