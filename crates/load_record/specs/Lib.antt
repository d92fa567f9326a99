pub mod Lines
pub mod RecordText
pub mod Reading
pub mod Law
pub mod Keeper
pub mod Runs
