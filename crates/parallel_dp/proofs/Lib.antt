mod Joining
mod LayerLaws
mod NextLaws
pub mod PieceLaws
mod Rising
mod TableSize
mod WayLaws
