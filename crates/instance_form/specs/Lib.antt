-- The definitions of the crate.
pub mod Answers
pub mod Faults
pub mod InstanceText
pub mod Lengths
pub mod Lines
pub mod Reading
pub mod Versions
