pub mod Inputs
pub mod Intake
pub mod Opening
pub mod Source
pub mod Taking
pub mod TapeFile
pub mod Tapes
