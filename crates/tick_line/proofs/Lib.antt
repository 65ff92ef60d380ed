pub mod ScanLaws
pub mod ByteLaws
pub mod RowLaws
pub mod WordLaws
