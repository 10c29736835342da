-- What the crate's proofs share, and the crates above.
pub mod RingLaws
mod WorkedRows
