pub mod EndLaws
pub mod Passes
pub mod Rounding
pub mod TaskLists
