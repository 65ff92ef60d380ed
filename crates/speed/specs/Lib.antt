pub mod Speed
pub mod Tenths
