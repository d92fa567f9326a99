pub mod Answer
pub mod Misplaced
pub mod Names
