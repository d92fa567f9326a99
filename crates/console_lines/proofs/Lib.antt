mod Ahead
pub mod Asked
mod Copied
mod Dropping
mod FirstByte
mod Looks
pub mod Silences
