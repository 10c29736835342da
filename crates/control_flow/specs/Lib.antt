pub mod Greens
pub mod Recalls
pub mod Signs
pub mod Timelines
pub use Rattle.phase_plan.specs.Phases
pub use Rattle.switch_rules.specs.Serving
