pub mod FaultLaws
pub mod FormLaws
pub mod NameLaws
pub mod RecordLaws
pub mod ShapeLaws
pub mod WalkLaws
