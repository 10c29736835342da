mod Beginnings
mod Cells
mod CompletedEntries
mod Completing
mod Digits
mod Draining
mod Filling
mod Growing
mod KeyOrder
mod Meeting
mod Merging
mod Parting
pub mod Bounds
pub mod Few
pub mod Keeping
pub mod OrderLaws
pub mod Reaching
pub mod RowLaws
pub mod Shapes
pub mod Wholes
