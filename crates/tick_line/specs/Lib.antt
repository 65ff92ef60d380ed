pub mod Scan
pub mod Reading
pub mod Words
