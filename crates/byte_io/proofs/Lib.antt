pub mod Faults
pub mod Fronts
