pub mod Gathering
pub mod Kinds
pub mod Meanings
pub mod Nodes
pub mod Requests
pub mod Rounds
pub mod Serving
