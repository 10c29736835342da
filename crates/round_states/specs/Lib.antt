pub mod Codes
pub mod Faults
pub mod Order
pub mod States
pub mod NextTexts
pub mod Readers
pub mod Texts
pub mod StateRecords
