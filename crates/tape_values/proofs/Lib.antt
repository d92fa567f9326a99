pub mod Pieces
pub mod Plain
