pub mod Slope
pub mod Kinematic
pub mod Claims
pub mod Worked
