pub mod Fields
pub mod Lines
pub mod Many
pub mod Numbers
