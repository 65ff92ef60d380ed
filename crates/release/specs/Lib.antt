pub mod Cycle
pub mod Nearest
pub mod Release
pub mod Found
