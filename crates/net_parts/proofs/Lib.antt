pub mod Distinct
pub mod DraftParts
pub mod Known
pub mod OutlineLaws
