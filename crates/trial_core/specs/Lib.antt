pub mod Digits
pub mod Laws
pub mod Letter
pub mod Style
pub mod Trial
pub mod TrialTable
