pub mod Timetable
pub mod NextStart
