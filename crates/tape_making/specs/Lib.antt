pub mod MadeTape
pub mod Making
pub mod Words
pub mod Refusal
pub mod Sheet
pub mod Reading
