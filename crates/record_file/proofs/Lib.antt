pub mod Aside
pub mod Asking
mod Begun
mod Folders
mod OldRecords
mod Rows
