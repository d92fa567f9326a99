pub mod Instead
