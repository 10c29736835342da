pub mod ApartLaws
pub mod MakingLaws
pub mod MarkLaws
pub mod OrderLaws
pub mod RecallLaws
pub mod RingLaws
pub mod RowLaws
pub mod SequenceLaws
pub mod ServingLaws
pub mod SignLaws
pub mod SpliceLaws
pub mod TurningLaws
mod WorkedRows
