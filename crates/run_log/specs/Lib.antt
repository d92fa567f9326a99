pub mod LogLine
pub mod Report
pub mod TimeText
