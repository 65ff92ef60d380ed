pub mod Intervals
pub mod Lanes
