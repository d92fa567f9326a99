pub mod Ending
pub mod HeardText
pub mod Notes
pub mod Pace
pub mod ProbeText
pub mod StyleText
pub mod Judging
