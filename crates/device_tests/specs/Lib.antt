pub mod Telling
pub mod ToldOutlets
