pub mod CycleLaws
pub mod CycleGreens
pub mod FieldLaws
mod FixedBoundLaws
pub mod FixedWaits
pub mod LineLaws
pub mod RedLaws
pub mod RowLaws
pub mod TextLaws
