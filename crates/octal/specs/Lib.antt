pub mod Octal
