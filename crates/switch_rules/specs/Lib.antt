pub mod Arriving
pub mod Bounds
pub mod Orders
pub mod Sequences
pub mod Serving
pub use Rattle.phase_plan.specs.Phases
