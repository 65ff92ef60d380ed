pub mod Checks
pub mod Tick
pub mod Cycle
pub mod Course
pub mod Waiting
pub mod Preemption
pub mod Serving
