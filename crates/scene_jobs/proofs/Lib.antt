pub mod EarlyStops
pub mod NoReading
