pub mod SpillRuns
pub mod SpillRounds
pub use Rattle.actuated.specs.ActRuns
pub use Rattle.audit.specs.Audits
pub use Rattle.signal_safety.specs.Safe
pub use Rattle.spillback_world.specs.StoredTotals
