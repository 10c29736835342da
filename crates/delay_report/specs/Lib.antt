pub mod Codes
pub mod Entries
pub mod Faults
pub mod Reports
pub mod Readers
pub mod Texts
pub mod Walks
