pub mod EntryLaws
pub mod RecordLaws
pub mod ShownLaws
pub mod ToldLaws
pub mod ToldSigns
pub mod WrittenLaws
