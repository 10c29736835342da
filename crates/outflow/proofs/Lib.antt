pub mod AddLaws
pub mod ForecastLaws
pub mod RowLaws
pub mod ServedLaws
