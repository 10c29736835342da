pub mod Complete
pub mod Ending
pub mod Plans
pub mod Promises
pub mod Resting
pub mod Runs
pub mod Tallies
