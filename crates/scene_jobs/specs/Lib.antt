pub mod Kinds
pub mod Meanings
