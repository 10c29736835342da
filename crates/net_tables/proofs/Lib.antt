pub mod FirstLaws
pub mod PartLaws
pub mod Views
