pub mod Acting
pub mod ActStepLaws
pub mod ActWaits
pub mod LineLaws
pub mod NearLaws
pub mod OneRun
mod RunLaws
mod WorkedRows
