pub mod GridPlans
pub mod Headlines
pub mod Missed
pub mod Planned
pub mod Replays
pub mod Telling
