pub mod Lines
pub mod Rounds
pub mod RowsApart
mod WorkedRows
