pub mod Digits
pub mod Signed
