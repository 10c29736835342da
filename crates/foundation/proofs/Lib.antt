-- Lemmas that the crates above share.
pub mod EachLaws
pub mod FirstLaws
pub mod ListLaws
pub mod OptionLaws
pub mod PositionLaws
pub mod RangeLaws
pub mod ResultLaws
