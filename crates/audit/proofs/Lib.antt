pub mod CleanTexts
mod CleanWaitLaws
pub mod CutLaws
mod LineReportLaws
mod LineRunLaws
mod Reasons
pub mod SheetReaderLaws
pub mod SheetFieldLaws
pub mod SheetTextLaws
pub mod ToldGreens
pub mod WrittenSheetLaws
