pub mod Outflow
pub mod Steps
