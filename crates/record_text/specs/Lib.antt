pub mod Decimals
pub mod Faults
pub mod Forms
pub mod Reading
pub mod Records
pub mod Walks
