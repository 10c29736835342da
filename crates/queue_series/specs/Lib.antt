pub mod Series
pub mod LinkStates
pub use Rattle.net_simulator.specs.Shown
