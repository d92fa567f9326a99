pub mod Stepped
mod Parts
mod Digits
mod Rows
pub mod Frame
mod Ways
mod Changed
mod Losses
mod Silence
pub mod Keys
mod Sites
pub mod Stores
mod Missing
pub mod Taking
pub mod NewLives
mod Hearing
mod Hurt
mod Heard
mod Changes
mod Machines
pub mod Events
pub mod Tame
pub mod Starts
pub mod Work
pub mod Explained
pub mod Opening
mod Fields
mod InTurn
pub mod OneBit
mod KeysLeft
mod CleanKeys
mod CleanEnds
mod CleanLine
pub use Rattle.tape_image.proofs.Halves
