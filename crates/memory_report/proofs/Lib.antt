mod Dots
mod Joins
