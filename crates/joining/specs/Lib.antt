pub mod Joining
pub mod InWords
pub mod EndToEnd
pub mod Filling
pub mod Decided
pub mod Ticked
pub mod Worked
