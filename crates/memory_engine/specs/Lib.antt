pub mod Belief
pub mod Leading
pub mod Tested
