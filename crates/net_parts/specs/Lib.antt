pub mod Bounds
pub mod Codes
pub mod FirstFaults
pub mod Limits
pub mod Numbers
pub mod Outline
pub mod Parts
