pub mod Decided
pub mod Lamps
pub mod Lines
