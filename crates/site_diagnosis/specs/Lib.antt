pub mod Names
pub mod Wrong
pub mod Diagnosis
