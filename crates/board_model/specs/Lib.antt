pub mod Boards
pub mod Calls
pub mod Forecasts
pub mod Stored
