pub mod Frame
pub mod Lives
pub mod Marks
mod Readings
pub mod Replies
pub mod Starts
pub mod Turns
pub mod Walk
