pub mod FoundPart
pub mod SavedSteps
pub mod SavedTape
pub mod Shelf
pub mod ShelfAt
pub mod ShelfDisk
pub mod ShelfTold
