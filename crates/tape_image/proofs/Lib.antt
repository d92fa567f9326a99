pub mod Halves
mod Stores
pub mod Blocks
pub mod Images
mod Parts
mod PageBytes
mod Tables
pub mod Laying
pub mod Words
pub mod Given
pub mod Standing
pub mod Plans
mod Tapes
pub mod SameWords
pub mod OverlayLaw
