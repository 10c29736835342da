pub mod Bounds
pub mod Waits
pub mod Discharges
pub mod Rounds
pub use Rattle.control_flow.specs.Greens
pub use Rattle.control_flow.specs.Timelines
