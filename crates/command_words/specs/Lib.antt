pub mod Calls
pub mod Factors
