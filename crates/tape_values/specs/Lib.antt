pub mod Told
pub mod Block
pub mod Tape
pub mod BadTape
pub mod OutOfMemory
