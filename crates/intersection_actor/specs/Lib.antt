pub mod Acting
pub mod Commits
pub mod PlanFields
pub mod Rounds
pub mod Splices
pub mod Steps
