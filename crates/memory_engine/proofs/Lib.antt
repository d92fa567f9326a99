pub mod Beliefs
pub mod Testings
