pub mod Added
pub mod FoundBlocks
pub mod OnShelf
pub mod SavedBlocks
