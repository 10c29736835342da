pub mod OneRun
pub mod RunLaws
