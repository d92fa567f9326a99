pub mod Line
pub mod Script
pub mod Draft
pub mod Law
