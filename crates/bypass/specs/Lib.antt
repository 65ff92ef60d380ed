pub mod Bypass
pub mod Lanes
pub mod Range
pub mod Found
