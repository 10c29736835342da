pub mod BoardLaws
pub mod FieldLaws
pub mod ByPlaceLaws
pub mod LineLaws
pub mod OrderLaws
pub mod StateLaws
pub mod TextLaws
pub mod KeptLaws
