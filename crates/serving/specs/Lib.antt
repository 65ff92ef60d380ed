pub mod Serving
pub mod Bypassed
