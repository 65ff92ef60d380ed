pub mod KeptLaws
pub mod SheetLaws
