pub mod Longest
pub mod NextStart
pub mod Turns
