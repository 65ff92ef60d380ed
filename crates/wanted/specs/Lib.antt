pub mod Wish
pub mod Decision
pub mod Levelled
