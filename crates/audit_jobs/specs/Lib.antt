pub mod Findings
pub mod Kinds
pub mod Meanings
pub mod Verdicts
