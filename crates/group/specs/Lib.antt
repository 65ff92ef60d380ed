pub mod Intervals
pub mod Preemption
pub mod Group
pub mod Steered
pub mod Searched
pub mod Indications
pub mod Range
