pub mod Disk
pub mod Laws
pub mod Lives
pub mod Removing
pub mod Shelf
