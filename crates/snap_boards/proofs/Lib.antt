pub mod Closes
pub mod Rows
pub mod Versions
