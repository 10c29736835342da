pub mod Faults
pub mod FirstShape
pub mod Forms
pub mod Parts
pub mod Reading
pub mod Table
