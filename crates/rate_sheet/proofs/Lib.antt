pub mod AskedLaws
pub mod SheetLaws
