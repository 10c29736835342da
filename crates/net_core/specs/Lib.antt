pub mod Acts
pub mod Cores
pub mod States
pub mod TurnRuns
