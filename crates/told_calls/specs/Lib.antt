pub mod LineRequests
pub mod ToldOpenings
pub mod ToldSteps
