pub mod FaultLaws
pub mod FieldLaws
pub mod JoinLaws
pub mod RowLaws
pub mod ScalingLaws
pub mod SecondLaws
pub mod TextLaws
