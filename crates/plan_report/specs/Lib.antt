pub mod RowsText
pub mod ReportText
pub mod Shown
pub mod Reported
