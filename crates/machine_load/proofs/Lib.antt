mod Begun
pub mod Driving
mod Faults
mod Fronts
mod GoingOn
mod Highest
mod Lives
mod Loads
pub mod OnDisk
mod Opened
mod Pushed
mod Renewed
