pub mod Errors
mod Left
pub mod OpenedTapes
pub mod Taken
pub mod TapeInput
mod TapesInput
pub mod Tried
