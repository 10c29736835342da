pub mod Fetching
pub mod Flawed
pub mod Outcomes
pub mod Stopping
pub mod TextLaws
