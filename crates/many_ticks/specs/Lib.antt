pub mod Many
pub mod Singly
pub mod Blocks
pub mod Known
