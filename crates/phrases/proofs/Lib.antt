pub mod DayNames
