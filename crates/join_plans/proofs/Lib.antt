pub mod JoinedLaws
pub mod ReportLaws
