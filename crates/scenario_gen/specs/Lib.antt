pub mod Arrivals
pub mod Drafts
pub mod Grids
pub mod Layout
