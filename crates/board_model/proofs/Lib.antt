pub mod ForBoards
pub mod ForCallers
pub mod ForecastLaws
mod Halves
pub mod Places
pub mod LastOf
pub mod LogLaws
