pub mod Runs
pub mod Totals
