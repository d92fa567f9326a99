pub mod ToldSystem
