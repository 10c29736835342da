pub mod Headline
pub mod Kinds
pub mod Meanings
pub mod Merged
pub mod Missing
pub mod Summary
pub use Rattle.bounded_runs.specs.Runs
