pub mod Accepted
pub mod Delivered
pub mod Memory
