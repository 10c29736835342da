pub mod ShelfLemmas
pub mod KeepLaws
