pub mod Bus
pub mod Report
pub mod Verdict
pub mod Words
