pub mod ByNames
pub mod Members
pub mod NetworkText
pub mod Reading
pub mod Upgrade
pub mod Written
