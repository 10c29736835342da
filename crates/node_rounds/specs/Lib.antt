pub mod Calls
pub mod Nodes
pub mod Rounds
pub mod Told
