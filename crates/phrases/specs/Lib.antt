pub mod Phrases
pub mod Wrong
