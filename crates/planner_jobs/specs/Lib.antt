pub mod Answers
pub mod Delivery
pub mod Kinds
pub mod Meanings
pub mod Verdicts
