mod Cuts
pub mod Runs
mod Holdings
mod Steps
pub mod Readings
pub mod Sound
mod SoFar
mod Joined
mod Fronts
mod Written
pub mod RecordLaws
mod FirstLines
mod Writing
pub mod Pieces
pub mod Keeping
mod LongestRuns
