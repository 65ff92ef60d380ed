pub mod Dates
pub mod Days
pub mod Holidays
pub mod Named
pub mod Clock
