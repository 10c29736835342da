pub mod Choosing
pub mod Sequences
pub mod TextLaws
pub mod Underway
mod WorkedRows
