pub mod Below
pub mod DateLaws
pub mod DayBefore
pub mod DayTypeLaws
pub mod NamedLaws
pub mod NextDate
pub mod RowLaws
