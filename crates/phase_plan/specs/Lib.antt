pub mod Codes
pub mod Phases
