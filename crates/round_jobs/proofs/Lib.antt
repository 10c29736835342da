pub mod Decided
mod GatherLaws
pub mod NextLaws
mod Refused
mod ServeLaws
