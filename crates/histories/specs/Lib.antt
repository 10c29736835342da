pub mod Calls
pub mod Histories
pub mod Merges
pub mod Places
pub mod Progress
pub mod Sides
pub mod Steps
pub mod Stored
