pub mod CleanLaws
pub mod EntryLaws
pub mod RenderLaws
pub mod ReportLaws
pub mod TextLaws
pub mod WalkLaws
